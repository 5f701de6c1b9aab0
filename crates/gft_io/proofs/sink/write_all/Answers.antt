use Rattle.std.proofs.Common.{rules}
use Rattle.gft_io.proofs.ToldLemmas.{on_err, Told-part, Told-more}
use Rattle.gft_io.proofs.sink.write_all.Goals as goal

pub returns-in_err-written-clause-part : goal.returns-in_err-written-clause-part
returns-in_err-written-clause-part g c =
    let w = c.loop-rest.invariant.written in
    on_err c.from_residual.result (Told-part c.args.bytes.now w.0 c.loop-rest.rest.now w.1 (search rules) _ (g.K.Sink.holds c.loop-rest.sink) _ w.2 c.in_err-written.ensures.appends)

pub loop-rest-preserved : goal.loop-rest-preserved
loop-rest-preserved g c =
    let w = c.loop-rest.invariant.written in
    let m = Told-more c.args.bytes.now w.0 c.loop-rest.rest.now c.in_ok-written.written w.1 _ (g.K.Sink.holds c.loop-rest.sink) (g.K.Sink.holds c.write.new.self) w.2 c.in_ok-written.ensures.appends in
    record { written = rw c.split_at.ensures.back m; faults = search rules }
