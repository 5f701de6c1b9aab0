use Rattle.std.proofs.Common.{rules}
use Rattle.gft_io.proofs.AnswerLemmas.{ended, finished, little_ended, little_finished}
use Rattle.gft_io.proofs.lines.Lines.next.Goals as goal

pub returns-in-Some-clause-answers : goal.returns-in-Some-clause-answers
returns-in-Some-clause-answers g c = λ bytes p.
    let e = c.in_ok-end.ensures in
    ended c.args.self.now c.gather.new.self c.end_line.new.self _ bytes c.in-Some.end c.end_line.result e.goes.passed (search rules) c.end_line.ensures.line (rw c.in-Some.is at e.found) c.end_line.ensures.ends (e.goes.pends bytes p)

pub returns-in-Some-clause-little : goal.returns-in-Some-clause-little
returns-in-Some-clause-little g c =
    little_ended c.gather.new.self c.end_line.new.self c.in-Some.end c.end_line.result c.end_line.ensures.ends c.in_ok-end.ensures.little

pub returns-in-None-clause-answers : goal.returns-in-None-clause-answers
returns-in-None-clause-answers g c = λ bytes p.
    let e = c.in_ok-end.ensures in
    let found = rw c.in-None.is at e.found in
    finished c.args.self.now c.gather.new.self c.last_line.new.self _ bytes c.last_line.result e.goes.passed (search rules) c.last_line.ensures.line found.0 found.1 c.last_line.ensures.ends (e.goes.pends bytes p)

pub returns-in-None-clause-little : goal.returns-in-None-clause-little
returns-in-None-clause-little g c =
    little_finished c.gather.new.self c.last_line.new.self c.last_line.result c.last_line.ensures.ends c.in_ok-end.ensures.little
