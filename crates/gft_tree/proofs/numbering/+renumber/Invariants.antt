use Rattle.std.proofs.Common.{◌≡◌, ℕ, List, ◌++◌, take, map}
use Rattle.gft_tree.specs.Trees.{holes_of, all_of, firsts_after, placed}
use Rattle.gft_tree.proofs.numbering.+renumber.Given as goal

-- the trees so far, and the numbers that were seen in them
abbrev pub invariant-renumber_all-each : goal.invariant-renumber_all-each
invariant-renumber_all-each l = record {
  seen : l.seen ≡ firsts_after l.initial.seen (all_of (map holes_of (take l.tree-index l.trees)));
  trees : (more : List ℕ) → l.renumbered ≡ map (placed (l.seen ++ more)) (take l.tree-index l.trees);
}
