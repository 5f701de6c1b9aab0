-- How the pairs that are still to be made equal shrink.
use Rattle.std.specs.Prelude.{◌≡◌, ◌≢◌, ◌↔◌, ℕ, ◌+◌, nat_eq, List, [], map, Option, None, Some, Result, Ok, Err}
use Rattle.std.specs.Borrow.{Bor}
use Rattle.std.specs.Map.{lookup}
use Rattle.gft_core.specs.declared.tree.Tree.{Tree}
use Rattle.gft_core.specs.declared.tree.Tree.TheVariants.{Hole}
use Rattle.gft_unify.specs.declared.error.UnifyErr.{UnifyErr}
use Rattle.gft_unify.specs.declared.error.UnifyErr.TheVariants.{Clash, Occurs, NoMemory}
use Rattle.gft_unify.specs.Instances.{inst, node_count}
use Rattle.gft_unify.specs.Substitutions.{MakesEqual}
use Rattle.gft_unify.specs.Parts.{IsPart, ArePairedParts, AreBoundParts}
use Rattle.gft_unify.specs.Heads.{IsClash}
use Rattle.gft_unify.specs.Bindings.{Respects, IsEnd}

-- the pairs, without where they lie
abbrev pub pairs_of : List (Bor Tree × Bor Tree) → List (Tree × Tree)
pairs_of work = map (λ p. (p.0.now, p.1.now)) work

-- a refusal of these two trees, or want of memory
abbrev pub IsRefusal : Tree → Tree → UnifyErr → Type 0
IsRefusal a b (Clash x y) = (x ≡ a) × (y ≡ b)
IsRefusal a b (Occurs k t) = ⊥
IsRefusal a b NoMemory = Unit {0}

-- what respects the bindings makes the old pairs equal exactly where it makes the new ones equal
abbrev pub AmountsTo : List (ℕ × Tree) → List (Tree × Tree) → List (Tree × Tree) → Type 0
AmountsTo bindings old new =
    (θ : ℕ → Tree) → Respects θ bindings → MakesEqual θ old ↔ MakesEqual θ new

-- what respects the bindings makes the old pairs equal exactly where it makes the new ones equal and gives k the instance of t
abbrev pub AmountsToBinding : List (ℕ × Tree) → List (Tree × Tree) → List (Tree × Tree) → ℕ → Tree → Type 0
AmountsToBinding bindings old new k t =
    (θ : ℕ → Tree) → Respects θ bindings → MakesEqual θ old ↔ (MakesEqual θ new × (θ k ≡ inst θ t))

-- what the search for the next hole to bind finds
abbrev pub FindsBinding : List (ℕ × Tree) → List (Tree × Tree) → List (Tree × Tree)
    → Result (Option (ℕ × Bor Tree)) UnifyErr → Type 0
FindsBinding bindings old new (Ok None) = AmountsTo bindings old [] × (new ≡ [])
FindsBinding bindings old new (Ok (Some b)) =
    AmountsToBinding bindings old new b.0 b.1.now × (b.1.now ≢ Hole b.0) × (lookup (nat_eq b.0) bindings ≡ None)
    × IsEnd bindings b.1.now
FindsBinding bindings old new (Err (Clash a b)) =
    IsClash a b × ((θ : ℕ → Tree) → Respects θ bindings → ¬ MakesEqual θ old)
FindsBinding bindings old new (Err (Occurs k t)) = ⊥
FindsBinding bindings old new (Err NoMemory) = Unit {0}

-- what is found stands in the pairs
abbrev pub StaysInside : List (Tree × Tree) → List (Tree × Tree) → Result (Option (ℕ × Bor Tree)) UnifyErr → Type 0
StaysInside pairs new (Ok None) = Unit {0}
StaysInside pairs new (Ok (Some b)) = ArePairedParts pairs new × IsPart pairs (Hole b.0) × IsPart pairs b.1.now
StaysInside pairs new (Err (Clash a b)) = IsPart pairs a × IsPart pairs b
StaysInside pairs new (Err (Occurs k t)) = Unit {0}
StaysInside pairs new (Err NoMemory) = Unit {0}

-- what is found is made of parts of the old pairs and of what is bound
abbrev pub IsMadeOfParts : List (ℕ × Tree) → List (Tree × Tree) → List (Tree × Tree)
    → Result (Option (ℕ × Bor Tree)) UnifyErr → Type 0
IsMadeOfParts bindings old new result =
    (pairs : List (Tree × Tree)) → AreBoundParts pairs bindings → ArePairedParts pairs old → StaysInside pairs new result

-- how large the instances of a pair are
abbrev pub pair_size : (ℕ → Tree) → Tree × Tree → ℕ
pair_size s p = node_count (inst s p.0) + node_count (inst s p.1)

-- a substitution makes the pairs equal exactly where it makes those that are left equal and respects what is bound
abbrev pub IsWhatIsLeft : List (Tree × Tree) → List (Tree × Tree) → List (ℕ × Tree) → Type 0
IsWhatIsLeft pairs left bindings = (θ : ℕ → Tree) → MakesEqual θ pairs ↔ (MakesEqual θ left × Respects θ bindings)
