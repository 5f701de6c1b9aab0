use Rattle.gft_model.proofs.SourceLemmas.{no_alternative}
use Rattle.gft_model.proofs.sources.no_variants.Goals as goal

pub returns : goal.returns
returns c = no_alternative
