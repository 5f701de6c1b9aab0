-- Trees: their forms. Text, depth, holes, instances and positions are those of the trees' own crate.
use Rattle.std.specs.Prelude.{◌≡◌, ℕ, List, []}
use Rattle.gft_core.specs.declared.tree.Tree.{Tree, out-Tree}
use Rattle.gft_core.specs.declared.tree.Tree.TheOpen as layer
pub use Rattle.gft_tree.specs.Trees.{Printed, printed, text_of, depth_step, depth_of, all_of, holes_step, holes_of, filled_step, filled, IsInstance, child_at, subtree_of, subtree_at}

-- the tree is the function f applied to the trees ts
abbrev pub IsApplication : Tree → List ℕ → List Tree → Type 0
IsApplication t f ts = out-Tree t ≡ layer.App f ts

-- the tree is the number n
abbrev pub IsInteger : Tree → ℕ → Type 0
IsInteger t n = out-Tree t ≡ layer.Int n

-- the tree is the string literal of the word w
abbrev pub IsString : Tree → List ℕ → Type 0
IsString t w = out-Tree t ≡ layer.Str w

-- the tree is the hole ?k
abbrev pub IsHole : Tree → ℕ → Type 0
IsHole t k = out-Tree t ≡ layer.Hole k

-- a tree without holes
abbrev pub IsClosed : Tree → Type 0
IsClosed t = holes_of t ≡ []
