use Rattle.std.proofs.Common.{rules}
use Rattle.gft_top.specs.Turns.{reply_of}
use Rattle.gft_top.proofs.EndLemmas.{starts_with, starts_cut}
use Rattle.gft_top.proofs.running.begin.Goals as goal

pub returns-in-Replied-clause-starts : goal.returns-in-Replied-clause-starts
returns-in-Replied-clause-starts g c =
    starts_with c.args.files.now.items (reply_of c.in_ok-reply.reply) (g.K.Sink.holds c.args.sink.now) (g.K.Sink.holds c.put.new.sink)
    (g.K.Sink.faults c.args.sink.now) (g.K.Sink.faults c.put.new.sink) c.in-Replied.refused
    (search rules) c.in-Replied.ensures.puts.1 c.in-Replied.ensures.puts.2

pub returns-in-Quit-clause-starts : goal.returns-in-Quit-clause-starts
returns-in-Quit-clause-starts g c =
    starts_with c.args.files.now.items (reply_of c.in_ok-reply.reply) (g.K.Sink.holds c.args.sink.now) (g.K.Sink.holds c.put.new.sink)
    (g.K.Sink.faults c.args.sink.now) (g.K.Sink.faults c.put.new.sink) c.in-Quit.refused
    (search rules) c.in-Quit.ensures.puts.1 c.in-Quit.ensures.puts.2

pub returns-clause-starts : goal.returns-clause-starts
returns-clause-starts g c =
    starts_cut c.args.files.now.items (reply_of c.in_ok-reply.reply) (g.K.Sink.holds c.args.sink.now) (g.K.Sink.holds c.put.new.sink)
    (g.K.Sink.faults c.args.sink.now) (g.K.Sink.faults c.put.new.sink) c.in-Ended.status
    (search rules) c.in-Ended.ensures.puts
