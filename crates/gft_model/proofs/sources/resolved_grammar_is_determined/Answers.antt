use Rattle.gft_model.proofs.FlatLaws.{flat_once}
use Rattle.gft_model.proofs.sources.resolved_grammar_is_determined.Goals as goal

pub returns : goal.returns
returns c = flat_once
