use Rattle.gft_core.proofs.SpacingLemmas.{words_of-joined, joined-words_of}
use Rattle.gft_core.proofs.spacing.words_and_join.Goals as goal

pub returns : goal.returns
returns c = record { joined_words = words_of-joined; words_joined = joined-words_of }
