use Rattle.gft_model.proofs.ReadingLaws.{no_fault}
use Rattle.gft_model.proofs.laws.grammar_has_no_fault.Goals as goal

pub returns : goal.returns
returns c = λ bytes g rule at r f. no_fault r f
