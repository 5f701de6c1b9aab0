use Rattle.std.proofs.Common.{List}
use Rattle.gft_core.specs.declared.tree.Tree.{Tree}
use Rattle.gft_unify.specs.Instances.{total}
use Rattle.gft_unify.specs.Parts.{ArePairedParts, AreBoundParts}
use Rattle.gft_unify.specs.Bindings.{solved}
use Rattle.gft_unify.specs.Work.{pairs_of, pair_size, AmountsTo}
use Rattle.gft_unify.proofs.work.next_binding.Given as goal

-- what is left amounts to what there was, and is made of its parts
abbrev pub invariant-pairs : goal.invariant-pairs
invariant-pairs l = record {
  amounts : AmountsTo l.store (pairs_of l.initial.work.items) (pairs_of l.work.items);
  parts : (pairs : List (Tree × Tree)) → AreBoundParts pairs l.store → ArePairedParts pairs (pairs_of l.initial.work.items) → ArePairedParts pairs (pairs_of l.work.items);
}

abbrev pub decreases-pairs : goal.decreases-pairs
decreases-pairs l = total (pair_size (solved l.store)) (pairs_of l.work.items)
