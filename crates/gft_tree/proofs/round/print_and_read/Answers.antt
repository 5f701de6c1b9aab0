use Rattle.gft_tree.proofs.RoundLemmas.{round}
use Rattle.gft_tree.proofs.round.print_and_read.Goals as goal

pub returns : goal.returns
returns c = round
