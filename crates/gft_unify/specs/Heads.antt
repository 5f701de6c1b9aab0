-- Heads of trees, and trees whose heads keep them apart.
use Rattle.std.specs.Prelude.{◌≢◌, ℕ, List, length}
use Rattle.gft_core.specs.declared.tree.Tree.{Tree}
use Rattle.gft_unify.specs.Layers.{folded}
use Rattle.gft_unify.specs.Instances.{IsNoHole}

-- the head of a tree: a function with the number of its arguments, a literal, or a hole
pub data Head : Type 0 where
  function : List ℕ → ℕ → Head
  number : ℕ → Head
  word : List ℕ → Head
  hole : ℕ → Head

-- the head of the tree
abbrev pub head_of : Tree → Head
head_of = folded (λ f heads. function f (length heads)) number word hole

-- neither is a hole, and they have different heads or different numbers of arguments
abbrev pub IsClash : Tree → Tree → Type 0
IsClash a b = (head_of a ≢ head_of b) × IsNoHole a × IsNoHole b
