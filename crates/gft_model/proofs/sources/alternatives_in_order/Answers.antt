use Rattle.gft_model.proofs.SourceLemmas.{two_alternatives}
use Rattle.gft_model.proofs.sources.alternatives_in_order.Goals as goal

pub returns : goal.returns
returns c = two_alternatives
