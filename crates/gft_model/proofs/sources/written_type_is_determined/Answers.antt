use Rattle.std.proofs.Common.{refl}
use Rattle.gft_model.proofs.TypeLaws.{type-once}
use Rattle.gft_model.proofs.sources.written_type_is_determined.Goals as goal

pub returns : goal.returns
returns c items e S T a b = type-once items a b refl
