use Rattle.std.proofs.Common.{◌≡◌, ℕ}
use Rattle.gft_core.specs.declared.tree.Tree.{Tree}
use Rattle.gft_unify.specs.Instances.{inst}
use Rattle.gft_unify.specs.Parts.{IsAmongParts}
use Rattle.gft_unify.specs.Bindings.{Respects, links_left}
use Rattle.gft_unify.proofs.store.Store.walk.Given as goal

-- the tree stands for the first one, and is a part where that is
abbrev pub invariant-chain : goal.invariant-chain
invariant-chain l = record {
  same : (θ : ℕ → Tree) → Respects θ l.self → inst θ l.tree ≡ inst θ l.initial.tree;
  part : IsAmongParts l.self l.initial.tree l.tree;
}

abbrev pub decreases-chain : goal.decreases-chain
decreases-chain l = links_left l.self l.tree
