-- What a value is made of has smaller numbers.
use Rattle.std.proofs.Common.{◌+◌, ◌*◌}
use Rattle.gft_eval.proofs.machine.Machine.+answers.Given as goal

abbrev pub decreases-answer : goal.decreases-answer
decreases-answer l = 2 * l.place + 1

abbrev pub decreases-answer_record : goal.decreases-answer_record
decreases-answer_record l = 2 * l.place

abbrev pub decreases-answer_table : goal.decreases-answer_table
decreases-answer_table l = 2 * l.place
