use Rattle.gft_tree.proofs.NumberLemmas.{numbers_all}
use Rattle.gft_tree.proofs.numbering.number_holes.Goals as goal

pub returns : goal.returns
returns c = numbers_all c.renumber.result c.args.tree.now c.new-seen.result c.renumber.new.seen c.new-seen.ensures c.renumber.ensures.seen c.renumber.ensures.tree
