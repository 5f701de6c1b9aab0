-- Bindings as they are made, the oldest first: a bound tree may have bound holes in it.
use Rattle.std.specs.Prelude.{◌≡◌, ◌≢◌, ℕ, suc, ◌<◌, ◌-◌, nat_eq, List, length, map, [], ◌∷◌, None, if◌then◌else◌}
use Rattle.std.specs.Option.{option_map}
use Rattle.std.specs.Borrow.{Bor}
use Rattle.std.specs.Map.{lookup}
use Rattle.gft_core.specs.declared.tree.Tree.{Tree}
use Rattle.gft_core.specs.declared.tree.Tree.TheVariants.{Hole}
use Rattle.gft_unify.specs.Layers.{folded}
use Rattle.gft_unify.specs.Instances.{inst, hole_count}

-- what is bound, without where it lies
abbrev pub seen : List (ℕ × Bor Tree) → List (ℕ × Tree)
seen entries = map (λ e. (e.0, e.1.now)) entries

-- hole k replaced by t, and no other hole
abbrev pub only : ℕ → Tree → ℕ → Tree
only k t j = if nat_eq k j then t else Hole j

-- s, and then its binding of k to t
abbrev pub with_binding : (ℕ → Tree) → ℕ × Tree → ℕ → Tree
with_binding s b j = inst (only b.0 (inst s b.1)) (s j)

-- s, and then each binding in turn
abbrev pub solved_from : (ℕ → Tree) → List (ℕ × Tree) → ℕ → Tree
solved_from s [] = s
solved_from s (b ∷ bindings) = solved_from (with_binding s b) bindings

-- the bindings followed to their ends
abbrev pub solved : List (ℕ × Tree) → ℕ → Tree
solved = solved_from Hole

-- θ gives each bound hole the instance of its tree
abbrev pub Respects : (ℕ → Tree) → List (ℕ × Tree) → Type 0
Respects θ [] = Unit {0}
Respects θ (b ∷ bindings) = (θ b.0 ≡ inst θ b.1) × Respects θ bindings

-- no hole is bound to hole k
abbrev pub Avoids : ℕ → List (ℕ × Tree) → Type 0
Avoids k [] = Unit {0}
Avoids k (b ∷ bindings) = (b.1 ≢ Hole k) × Avoids k bindings

-- no hole is bound to itself, or to a hole that was bound before it
abbrev pub LinksOn : List (ℕ × Tree) → Type 0
LinksOn [] = Unit {0}
LinksOn (b ∷ bindings) = Avoids b.0 (b ∷ bindings) × LinksOn bindings

-- how many bindings were made before that of hole k; all of them, where it is loose
abbrev pub bound_after : List (ℕ × Tree) → ℕ → ℕ
bound_after [] k = 0
bound_after (b ∷ bindings) k = if nat_eq k b.0 then 0 else suc (bound_after bindings k)

-- where the tree is a hole, it was bound later than hole k, or is loose
abbrev pub IsLater : List (ℕ × Tree) → ℕ → Tree → Type 0
IsLater bindings k t = (j : ℕ) → t ≡ Hole j → bound_after bindings k < bound_after bindings j

-- the tree is no bound hole
abbrev pub IsEnd : List (ℕ × Tree) → Tree → Type 0
IsEnd bindings t = (k : ℕ) → t ≡ Hole k → lookup (nat_eq k) bindings ≡ None

-- no chain of bindings comes back to where it began
pub record IsAcyclic (bindings : List (ℕ × Tree)) : Type 0 where
  pub respected : Respects (solved bindings) bindings
  pub loose : (k : ℕ) → lookup (nat_eq k) bindings ≡ None → solved bindings k ≡ Hole k
  pub settled : (j k : ℕ) → lookup (nat_eq k) bindings ≢ None
      → hole_count (nat_eq k) (solved bindings j) ≡ 0

-- how many bindings a chain that stands at the tree can still go through, at the most
abbrev pub links_left : List (ℕ × Tree) → Tree → ℕ
links_left bindings =
    folded (λ f counts. 0) (λ n. 0) (λ w. 0) (λ k. suc (length bindings) - bound_after bindings k)

-- the trees, without where they lie
abbrev pub trees_of : List (Bor Tree) → List Tree
trees_of pending = map (λ t. t.now) pending

-- the substitution binds what the first bindings bind, to what all bindings give it in the end
abbrev pub HasSolvedFirst : List (ℕ × Tree) → List (ℕ × Tree) → List (ℕ × Tree) → Type 0
HasSolvedFirst substitution first bindings =
    (k : ℕ) → lookup (nat_eq k) substitution ≡ option_map (λ t. solved bindings k) (lookup (nat_eq k) first)

-- the substitution binds what the bindings bind, to what they give it in the end
abbrev pub HasSolved : List (ℕ × Tree) → List (ℕ × Tree) → Type 0
HasSolved substitution bindings = HasSolvedFirst substitution bindings bindings
