use Rattle.gft_model.proofs.RunStringLaws.{string_run}
use Rattle.gft_model.proofs.laws.string_is_of_run.Goals as goal

pub returns : goal.returns
returns c = λ a c' cat t words closed s. string_run closed s
