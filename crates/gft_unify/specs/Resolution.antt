-- Trees with their bindings followed to their ends.
use Rattle.std.specs.Prelude.{ℕ, List}
use Rattle.gft_core.specs.declared.tree.Tree.{Tree}
use Rattle.gft_unify.specs.Instances.{inst}
use Rattle.gft_unify.specs.Bindings.{solved}
use Rattle.gft_unify.specs.Building.{Builds}

-- the tree with its bindings followed to their ends
abbrev pub resolved : List (ℕ × Tree) → Tree → Tree
resolved bindings t = inst (solved bindings) t

-- the nodes build the tree with its bindings followed to their ends
abbrev pub AreNodesOf : Tree → List (ℕ × Tree) → List Tree → Type 0
AreNodesOf t bindings nodes = Builds (resolved bindings t) nodes
