use Rattle.std.proofs.Common.{◌∷◌, []}
use Rattle.gft_unify.specs.Instances.{inst, total, node_count}
use Rattle.gft_unify.specs.Bindings.{solved, trees_of}
use Rattle.gft_unify.specs.Building.{Completes}
use Rattle.gft_unify.proofs.resolve.nodes.Given as goal

-- what builds the trees that are pending completes the nodes so far
abbrev pub invariant-nodes : goal.invariant-nodes
invariant-nodes l = Completes (inst (solved l.store)) (trees_of l.found.items) (trees_of l.pending.items) (inst (solved l.store) l.tree ∷ [])

abbrev pub decreases-nodes : goal.decreases-nodes
decreases-nodes l = total (λ t. node_count (inst (solved l.store) t)) (trees_of l.pending.items)
