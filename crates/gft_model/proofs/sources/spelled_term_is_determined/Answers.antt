use Rattle.std.proofs.Common.{refl}
use Rattle.gft_model.specs.Grammar.{term}
use Rattle.gft_model.proofs.SliceLaws.{same-part}
use Rattle.gft_model.proofs.sources.spelled_term_is_determined.Goals as goal

pub returns : goal.returns
returns c = λ l ts a b d e. same-part (term l) refl tt d refl e refl
