-- How high a value may still be falls with each step into it.
use Rattle.std.proofs.Common.{◌+◌, ◌*◌}
use Rattle.gft_eval.proofs.machine.Machine.+given.Given as goal

abbrev pub decreases-given : goal.decreases-given
decreases-given l = 2 * l.left

abbrev pub decreases-given_record : goal.decreases-given_record
decreases-given_record l = 2 * l.left + 1

abbrev pub decreases-given_table : goal.decreases-given_table
decreases-given_table l = 2 * l.left + 1
