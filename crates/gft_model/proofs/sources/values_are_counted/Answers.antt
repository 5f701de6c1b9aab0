use Rattle.gft_model.proofs.SourceLemmas.{values-counted}
use Rattle.gft_model.proofs.sources.values_are_counted.Goals as goal

pub returns : goal.returns
returns c = values-counted
