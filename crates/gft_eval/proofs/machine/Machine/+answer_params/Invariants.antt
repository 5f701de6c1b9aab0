-- What a value is made of has smaller numbers.
use Rattle.std.proofs.Common.{◌+◌, ◌*◌}
use Rattle.gft_eval.proofs.machine.Machine.+answer_params.Given as goal

abbrev pub decreases-answer_param : goal.decreases-answer_param
decreases-answer_param l = 2 * l.place + 1

abbrev pub decreases-answer_con : goal.decreases-answer_con
decreases-answer_con l = 2 * l.place

abbrev pub decreases-answer_fields : goal.decreases-answer_fields
decreases-answer_fields l = 2 * l.place
