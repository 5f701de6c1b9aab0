use Rattle.gft_top.proofs.EndLemmas.{session_ends, begin_ends}
use Rattle.gft_top.proofs.running.serve.Goals as goal

pub returns-in-Ok-clause-told : goal.returns-in-Ok-clause-told
returns-in-Ok-clause-told g c = λ input e.
    let s = c.in-Ok.ensures.starts in
    session_ends c.args.files.now.items input s.0 (g.K.Sink.holds c.args.sink.now) (g.K.Sink.holds c.begin.new.sink) (g.K.Sink.holds c.replies.new.sink)
    (g.S.Source.left c.replies.new.source) s.1 s.3 c.in-Ok.refused c.replies.result s.2 (c.replies.ensures.told input e)

pub returns-in-Err-clause-told : goal.returns-in-Err-clause-told
returns-in-Err-clause-told g c = λ input e.
    begin_ends c.args.files.now.items input (g.K.Sink.holds c.args.sink.now) (g.K.Sink.holds c.begin.new.sink) (g.S.Source.left c.args.source.now)
    (g.K.Sink.faults c.args.sink.now) (g.K.Sink.faults c.begin.new.sink) c.in-Err.status c.in-Err.ensures.starts
