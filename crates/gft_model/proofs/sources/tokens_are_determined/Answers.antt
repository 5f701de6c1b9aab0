use Rattle.gft_model.proofs.SourceLemmas.{one_list_of_tokens}
use Rattle.gft_model.proofs.sources.tokens_are_determined.Goals as goal

pub returns : goal.returns
returns c = one_list_of_tokens
