use Rattle.gft_model.proofs.NothingWrong.{right}
use Rattle.gft_model.proofs.answers.skeleton_is_right.Goals as goal

pub returns : goal.returns
returns c = λ a t cat apart skeleton p kind r. right a skeleton.0 apart skeleton.1 skeleton.2
