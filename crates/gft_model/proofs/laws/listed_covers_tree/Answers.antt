use Rattle.gft_model.specs.RunStrings.{IsBracketedString}
use Rattle.gft_model.proofs.CutLaws.{listed_covers}
use Rattle.gft_model.proofs.laws.listed_covers_tree.Goals as goal

pub returns : goal.returns
returns c = λ a c' cat words depth pattern l. listed_covers (IsBracketedString a c' cat) cat words depth l
