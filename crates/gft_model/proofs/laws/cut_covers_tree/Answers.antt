use Rattle.gft_model.proofs.CutLaws.{cut_covers}
use Rattle.gft_model.proofs.laws.cut_covers_tree.Goals as goal

pub returns : goal.returns
returns c = cut_covers
