use Rattle.gft_model.proofs.RunLaws.{value_of_run}
use Rattle.gft_model.proofs.laws.run_gives_value.Goals as goal

pub returns : goal.returns
returns c = λ a c' p r n fs d e. value_of_run fs d e p
