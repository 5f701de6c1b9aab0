use Rattle.std.proofs.Common.{refl}
use Rattle.gft_model.proofs.PatternLaws.{fits-once}
use Rattle.gft_model.proofs.sources.pattern_fits_once.Goals as goal

pub returns : goal.returns
returns c T p Γ Δ a b = fits-once a b refl refl
