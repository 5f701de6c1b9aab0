use Rattle.gft_model.proofs.RunStringLaws.{one_yield}
use Rattle.gft_model.proofs.laws.yield_is_determined.Goals as goal

pub returns : goal.returns
returns c = λ c' cat r v w x y. one_yield x y
