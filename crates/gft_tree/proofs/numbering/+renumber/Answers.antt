use Rattle.std.proofs.Common.{◌++◌, ap, ◌∙◌, map}
use Rattle.gft_tree.specs.Trees.{placed}
use Rattle.gft_tree.proofs.NumberLemmas.{app_placed, hole_placed, seen_more, trees_more}
use Rattle.gft_tree.proofs.numbering.+renumber.Goals as goal

pub renumber-returns-in_ok-copy-in-App-clause-tree : goal.renumber-returns-in_ok-copy-in-App-clause-tree
renumber-returns-in_ok-copy-in-App-clause-tree t c =
    let new = c.renumber_all.new.seen in
    app_placed c.args.tree.now c.in-App.function c.in_ok-copy-in-App.field-0 c.in-App.arguments c.in_ok-arguments-in-App.arguments new c.in-App.is c.in_ok-copy-in-App.ensures
    (λ more. c.in_ok-arguments-in-App.ensures.trees more ∙ ap (map (placed (new ++ more))) c.as_slice.ensures)

pub renumber-returns-in_ok-place-in-Hole-clause-tree : goal.renumber-returns-in_ok-place-in-Hole-clause-tree
renumber-returns-in_ok-place-in-Hole-clause-tree t c =
    hole_placed c.args.tree.now c.in-Hole.number c.in_ok-place-in-Hole.field-0 c.args.seen.now c.place.new.self c.in-Hole.is c.in_ok-place-in-Hole.ensures.seen c.in_ok-place-in-Hole.ensures.place

pub renumber_all-each-preserved : goal.renumber_all-each-preserved
renumber_all-each-preserved t c =
    let ts = c.args.trees.now in
    let i = c.each.tree-index in
    let x = c.tree-item.result in
    record {
      seen = seen_more ts i x c.args.seen.now c.each.seen c.renumber.new.seen c.each-test.true c.tree-item.is c.each.invariant.seen c.in_ok-renumber.ensures.seen;
      trees = trees_more ts c.each.renumbered c.push.new.self i x c.in_ok-renumber.field-0 c.each.seen c.renumber.new.seen c.each-test.true c.tree-item.is
          c.each.invariant.trees c.in_ok-renumber.ensures.seen c.in_ok-renumber.ensures.tree c.in_ok-push.ensures.ok;
    }
