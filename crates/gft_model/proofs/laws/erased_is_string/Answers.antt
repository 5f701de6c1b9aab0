use Rattle.std.proofs.Common.{refl}
use Rattle.gft_model.proofs.laws.erased_is_string.Goals as goal

pub returns : goal.returns
returns c = λ a c' cat t b x. (b, x, refl)
