use Rattle.std.proofs.Common.{◌≡◌, nat_eq}
use Rattle.gft_unify.specs.Instances.{inst, total, hole_count, node_count}
use Rattle.gft_unify.specs.Bindings.{solved, trees_of}
use Rattle.gft_unify.proofs.occurs.reaches.Given as goal

-- the hole stands in what is left as often as in the whole
abbrev pub invariant-search : goal.invariant-search
invariant-search l =
    hole_count (nat_eq l.hole) (inst (solved l.store) l.tree) ≡ total (λ t. hole_count (nat_eq l.hole) (inst (solved l.store) t)) (trees_of l.pending.items)

abbrev pub decreases-search : goal.decreases-search
decreases-search l = total (λ t. node_count (inst (solved l.store) t)) (trees_of l.pending.items)
