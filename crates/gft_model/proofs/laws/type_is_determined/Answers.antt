use Rattle.gft_model.proofs.SkeletonLaws.{one_type}
use Rattle.gft_model.proofs.laws.type_is_determined.Goals as goal

pub returns : goal.returns
returns c = λ a T t A B fs hs x y. one_type fs hs x y
