use Rattle.std.proofs.Common.{sym, subst}
use Rattle.gft_top.specs.Turns.{reply_of}
use Rattle.gft_top.specs.Ends.{ReplyTold}
use Rattle.gft_top.proofs.MakeLemmas.{saves}
use Rattle.gft_top.proofs.running.finish.Goals as goal

pub returns-in-Replied-clause-told : goal.returns-in-Replied-clause-told
returns-in-Replied-clause-told g c =
    let held = g.K.Sink.holds c.args.sink.now in
    let holds = g.K.Sink.holds c.put.new.sink in
    let q = c.in-Replied.ensures.puts in
    subst (λ s. ReplyTold held holds s) (sym c.flagged.ensures) (saves (reply_of c.args.reply.now) held holds c.in-Replied.refused q.1 q.2)

pub returns-in-Quit-clause-told : goal.returns-in-Quit-clause-told
returns-in-Quit-clause-told g c =
    let held = g.K.Sink.holds c.args.sink.now in
    let holds = g.K.Sink.holds c.put.new.sink in
    let q = c.in-Quit.ensures.puts in
    subst (λ s. ReplyTold held holds s) (sym c.flagged-in-Quit.ensures) (saves (reply_of c.args.reply.now) held holds c.in-Quit.refused q.1 q.2)

pub returns-in-Ended-clause-told : goal.returns-in-Ended-clause-told
returns-in-Ended-clause-told g c =
    let held = g.K.Sink.holds c.args.sink.now in
    let holds = g.K.Sink.holds c.put.new.sink in
    let q = c.in-Ended.ensures.puts in
    subst (λ s. ReplyTold held holds s) (sym q.0) (reply_of c.args.reply.now, q.2)
