use Rattle.std.proofs.Common.{vec_len}
use Rattle.gft_forest.proofs.expanding.push_run.Given as goal

abbrev pub decreases-parts : goal.decreases-parts
decreases-parts l = vec_len l.parts
