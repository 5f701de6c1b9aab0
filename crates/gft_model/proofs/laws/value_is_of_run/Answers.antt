use Rattle.gft_model.proofs.RunLaws.{run_of_value}
use Rattle.gft_model.proofs.laws.value_is_of_run.Goals as goal

pub returns : goal.returns
returns c = λ a c' p t n vs x y. run_of_value x y
