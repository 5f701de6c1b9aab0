use Rattle.std.proofs.Common.{refl}
use Rattle.gft_model.proofs.FoundTypes.{check-once}
use Rattle.gft_model.proofs.sources.meaning_is_determined.Goals as goal

pub returns : goal.returns
returns c items Γ e T t u a b = check-once items a b refl refl refl
