use Rattle.std.proofs.Common.{refl}
use Rattle.gft_model.proofs.FoundTypes.{find-once}
use Rattle.gft_model.proofs.sources.found_type_is_determined.Goals as goal

pub returns : goal.returns
returns c items Γ e S T t u a b = find-once items a b refl refl
