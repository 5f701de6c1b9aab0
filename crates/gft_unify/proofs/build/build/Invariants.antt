use Rattle.std.proofs.Common.{◌≡◌, [], vec_len}
use Rattle.gft_unify.specs.Bindings.{trees_of}
use Rattle.gft_unify.specs.Building.{built_on}
use Rattle.gft_unify.proofs.build.build.Given as goal

-- the nodes that are left, put on what is built, give what all nodes give
abbrev pub invariant-nodes : goal.invariant-nodes
invariant-nodes l = built_on (trees_of l.nodes.items) l.built.items ≡ built_on (trees_of l.initial.nodes.items) []

abbrev pub decreases-nodes : goal.decreases-nodes
decreases-nodes l = vec_len l.nodes
