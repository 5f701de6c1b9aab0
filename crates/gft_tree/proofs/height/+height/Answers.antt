use Rattle.gft_tree.proofs.ListLemmas.{deeper}
use Rattle.gft_tree.proofs.height.+height.Goals as goal

pub highest-each-preserved : goal.highest-each-preserved
highest-each-preserved t c =
    deeper c.args.trees.now c.each.tree-index c.each.most _ _ c.tree-item.result c.each-test.true c.tree-item.is c.each.invariant c.height.ensures c.max-most.ensures
