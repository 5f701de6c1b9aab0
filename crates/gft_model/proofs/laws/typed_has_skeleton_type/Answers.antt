use Rattle.gft_model.proofs.SkeletonLaws.{skeleton}
use Rattle.gft_model.proofs.laws.typed_has_skeleton_type.Goals as goal

pub returns : goal.returns
returns c = λ a T t type x. skeleton x
