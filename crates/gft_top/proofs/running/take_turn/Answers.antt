use Rattle.std.proofs.Common.{arith}
use Rattle.gft_top.specs.Turns.{reply_of}
use Rattle.gft_top.proofs.TurnLemmas.{replied_told, ended_told, replied_advances, replied_cause, ended_cause}
use Rattle.gft_top.proofs.running.take_turn.Goals as goal

pub returns-in-Ok-clause-told : goal.returns-in-Ok-clause-told
returns-in-Ok-clause-told g c = λ bytes p.
    replied_told c.args.lines.now c.next-found.new.self (g.S.Source.left c.next-found.new.source) (g.K.Sink.holds c.args.sink.now)
    (g.K.Sink.holds c.put.new.sink) bytes c.next-found.result c.in-Ok.reply _ _ c.put.result c.in-Ok.ensures c.put.ensures.puts (c.next-found.ensures.answers bytes p)

pub returns-in-Ok-clause-advances : goal.returns-in-Ok-clause-advances
returns-in-Ok-clause-advances g c =
    replied_advances c.args.lines.now c.next-found.new.self c.next-found.result c.in-Ok.reply c.put.result c.in-Ok.ensures c.next-found.ensures.advances

pub returns-in-Ok-clause-cause : goal.returns-in-Ok-clause-cause
returns-in-Ok-clause-cause g c =
    replied_cause c.next-found.new.self _ _ _ _ (reply_of c.in-Ok.reply) (g.K.Sink.holds c.args.sink.now) (g.K.Sink.holds c.put.new.sink) c.put.result c.put.ensures.puts

pub returns-in-Ok-clause-bound : goal.returns-in-Ok-clause-bound
returns-in-Ok-clause-bound g c = c.next-found.ensures.bound

pub returns-in-Ok-clause-counts : goal.returns-in-Ok-clause-counts
returns-in-Ok-clause-counts g c = c.next-found.ensures.counts

pub returns-in-Ok-clause-takes : goal.returns-in-Ok-clause-takes
returns-in-Ok-clause-takes g c = c.next-found.ensures.takes

pub returns-in-Ok-clause-faults : goal.returns-in-Ok-clause-faults
returns-in-Ok-clause-faults g c = c.next-found.ensures.faults

pub returns-in-Ok-clause-sink_faults : goal.returns-in-Ok-clause-sink_faults
returns-in-Ok-clause-sink_faults g c = c.put.ensures.faults

pub returns-in-Err-clause-told : goal.returns-in-Err-clause-told
returns-in-Err-clause-told g c = λ bytes p.
    ended_told c.args.lines.now c.next-found.new.self (g.S.Source.left c.next-found.new.source) (g.K.Sink.holds c.args.sink.now)
    bytes c.next-found.result c.in-Err.status c.in-Err.ensures (c.next-found.ensures.answers bytes p) (λ e. (c.next-found.ensures.failed e).1) c.next-found.ensures.limit

pub returns-in-Err-clause-advances : goal.returns-in-Err-clause-advances
returns-in-Err-clause-advances g c = tt

pub returns-in-Err-clause-cause : goal.returns-in-Err-clause-cause
returns-in-Err-clause-cause g c =
    ended_cause c.args.lines.now c.next-found.new.self _ _ _ _ c.next-found.result c.in-Err.status c.in-Err.ensures
    c.next-found.ensures.failed c.next-found.ensures.limit

pub returns-in-Err-clause-bound : goal.returns-in-Err-clause-bound
returns-in-Err-clause-bound g c = c.next-found.ensures.bound

pub returns-in-Err-clause-counts : goal.returns-in-Err-clause-counts
returns-in-Err-clause-counts g c = c.next-found.ensures.counts

pub returns-in-Err-clause-takes : goal.returns-in-Err-clause-takes
returns-in-Err-clause-takes g c = c.next-found.ensures.takes

pub returns-in-Err-clause-faults : goal.returns-in-Err-clause-faults
returns-in-Err-clause-faults g c = c.next-found.ensures.faults

pub returns-in-Err-clause-sink_faults : goal.returns-in-Err-clause-sink_faults
returns-in-Err-clause-sink_faults g c = omega arith
