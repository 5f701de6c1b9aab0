-- Substitutions: which trees they give to holes, and which pairs of trees they make equal.
use Rattle.std.specs.Prelude.{◌≡◌, ℕ, ◌+◌, Bool, nat_eq, List, [], ◌∷◌, None, unwrap_or, IsSome, ◌≢◌}
use Rattle.std.specs.Map.{lookup}
use Rattle.gft_core.specs.declared.tree.Tree.{Tree}
use Rattle.gft_core.specs.declared.tree.Tree.TheVariants.{Hole}
use Rattle.gft_unify.specs.Instances.{inst, total, hole_count}

-- the tree that the bindings give to hole k: the hole itself, where it is not bound
abbrev pub tree_at : List (ℕ × Tree) → ℕ → Tree
tree_at bindings k = unwrap_or (lookup (nat_eq k) bindings) (Hole k)

-- hole k is bound
abbrev pub IsBound : List (ℕ × Tree) → ℕ → Type 0
IsBound bindings k = IsSome (lookup (nat_eq k) bindings)

-- no bound hole stands in the tree of any hole
abbrev pub IsSettled : List (ℕ × Tree) → Type 0
IsSettled bindings = (j k : ℕ) → IsBound bindings k → hole_count (nat_eq k) (tree_at bindings j) ≡ 0

-- the instances of both sides are equal, at each pair
abbrev pub MakesEqual : (ℕ → Tree) → List (Tree × Tree) → Type 0
MakesEqual θ [] = Unit {0}
MakesEqual θ (p ∷ pairs) = (inst θ p.0 ≡ inst θ p.1) × MakesEqual θ pairs

-- every substitution that makes the pairs equal is an instance of the bindings
abbrev pub IsMostGeneral : List (ℕ × Tree) → List (Tree × Tree) → Type 0
IsMostGeneral bindings pairs =
    (θ : ℕ → Tree) → MakesEqual θ pairs → (k : ℕ) → inst θ (tree_at bindings k) ≡ θ k

-- no substitution makes the pairs equal
abbrev pub HasNoUnifier : List (Tree × Tree) → Type 0
HasNoUnifier pairs = (θ : ℕ → Tree) → ¬ MakesEqual θ pairs

-- how many occurrences of holes in the pairs pass the test
abbrev pub hole_count_of_pairs : (ℕ → Bool) → List (Tree × Tree) → ℕ
hole_count_of_pairs test = total (λ p. hole_count test p.0 + hole_count test p.1)

-- the bound holes, and those that stand in their trees, stand in the pairs
abbrev pub KeepsTo : List (Tree × Tree) → List (ℕ × Tree) → Type 0
KeepsTo pairs bindings =
    (k : ℕ) → hole_count_of_pairs (nat_eq k) pairs ≡ 0
    → (lookup (nat_eq k) bindings ≡ None) × ((j : ℕ) → j ≢ k → hole_count (nat_eq k) (tree_at bindings j) ≡ 0)
