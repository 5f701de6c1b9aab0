-- Instances of a tree: its holes replaced by trees, equal holes by equal trees.
use Rattle.std.specs.Prelude.{◌≡◌, ◌≢◌, ℕ, ◌+◌, ◌<◌, Bool, nat_eq, List, [], ◌∷◌, if◌then◌else◌}
use Rattle.gft_core.specs.declared.tree.Tree.{Tree}
use Rattle.gft_core.specs.declared.tree.Tree.TheVariants.{App, Int, Str, Hole}
use Rattle.gft_unify.specs.Layers.{folded}

-- the tree with each hole k replaced by the tree θ k
abbrev pub inst : (ℕ → Tree) → Tree → Tree
inst θ = folded App Int Str θ

-- the sum of a number of each item
abbrev pub total : {X : Type 0} → (X → ℕ) → List X → ℕ
total f [] = 0
total f (x ∷ xs) = f x + total f xs

-- how many occurrences of holes in the tree pass the test
abbrev pub hole_count : (ℕ → Bool) → Tree → ℕ
hole_count test = folded (λ f counts. total (λ n. n) counts) (λ n. 0) (λ w. 0) (λ k. if test k then 1 else 0)

-- the hole k stands in the tree
abbrev pub StandsIn : ℕ → Tree → Type 0
StandsIn k t = 0 < hole_count (nat_eq k) t

-- how many nodes the tree has
abbrev pub node_count : Tree → ℕ
node_count = folded (λ f counts. total (λ n. n) counts + 1) (λ n. 1) (λ w. 1) (λ k. 1)

-- the tree is no hole
abbrev pub IsNoHole : Tree → Type 0
IsNoHole t = (k : ℕ) → t ≢ Hole k

-- where the tree is a hole, θ leaves it
abbrev pub IsFixed : (ℕ → Tree) → Tree → Type 0
IsFixed θ t = (k : ℕ) → t ≡ Hole k → θ k ≡ Hole k
