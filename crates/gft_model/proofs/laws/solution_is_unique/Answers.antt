use Rattle.gft_model.proofs.Renaming.{unique}
use Rattle.gft_model.proofs.laws.solution_is_unique.Goals as goal

pub returns : goal.returns
returns c = λ a pattern s u x y. unique a pattern s u x y
