use Rattle.gft_model.proofs.FlawLaws.{flaw_has_no_type}
use Rattle.gft_model.proofs.laws.flawed_is_no_type.Goals as goal

pub returns : goal.returns
returns c = λ a T type flaw fs hs d e. flaw_has_no_type fs hs d e
