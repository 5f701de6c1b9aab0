use Rattle.std.proofs.Common.{refl}
use Rattle.gft_model.specs.Grammar.{pattern}
use Rattle.gft_model.proofs.SliceLaws.{same-part}
use Rattle.gft_model.proofs.sources.spelled_pattern_is_determined.Goals as goal

pub returns : goal.returns
returns c = λ l ts p q d e. same-part (pattern l) refl tt d refl e refl
