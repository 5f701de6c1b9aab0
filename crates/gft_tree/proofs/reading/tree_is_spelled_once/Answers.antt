use Rattle.std.proofs.Common.{sym}
use Rattle.gft_tree.proofs.AnswerLemmas.{spells_reads, is_read}
use Rattle.gft_tree.proofs.reading.tree_is_spelled_once.Goals as goal

pub returns : goal.returns
returns c = λ text t u s r. sym ((is_read text t (spells_reads text t s)).only u r)
