use Rattle.gft_model.proofs.NoFlaw.{not_invalid}
use Rattle.gft_model.proofs.laws.grammar_is_not_invalid.Goals as goal

pub returns : goal.returns
returns c = λ bytes g flaw at r x. not_invalid r x
