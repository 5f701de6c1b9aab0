use lib.Utf8.{encode}
use Rattle.gft_tree.proofs.ListLemmas.{written}
use Rattle.gft_tree.proofs.writing.+push.Goals as goal

pub push_arguments-each-preserved : goal.push_arguments-each-preserved
unfolding encode
push_arguments-each-preserved t c =
    written c.args.trees.now c.each.tree-index _ _ _ _ c.tree-item.result c.each-test.true c.tree-item.is c.each.invariant c.in_ok-push.ensures.bytes c.in_ok-push_argument.ensures
