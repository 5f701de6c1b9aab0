use Rattle.gft_model.proofs.RunLaws.{one_nonterminal}
use Rattle.gft_model.proofs.laws.nonterminal_is_determined.Goals as goal

pub returns : goal.returns
returns c = λ c' r n m x y. one_nonterminal x y
