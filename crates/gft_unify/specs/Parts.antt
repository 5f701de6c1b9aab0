-- The parts of pairs of trees.
use Rattle.std.specs.Prelude.{◌≡◌, ◌⊎◌, ℕ, List, [], ◌∷◌}
use Rattle.gft_core.specs.declared.tree.Tree.{Tree}
use Rattle.gft_core.specs.declared.tree.Tree.TheVariants.{App, Hole}

-- x is an item of the list
abbrev pub Among : {X : Type 0} → X → List X → Type 0
Among x [] = ⊥
Among x (y ∷ ys) = (x ≡ y) ⊎ Among x ys

-- the tree is a side of one of the pairs, or an argument of such a part
pub data IsPart (pairs : List (Tree × Tree)) : Tree → Type 0 where
  left : (a b : Tree) → Among (a, b) pairs → IsPart pairs a
  right : (a b : Tree) → Among (a, b) pairs → IsPart pairs b
  argument : (f : List ℕ) (xs : List Tree) (x : Tree) → IsPart pairs (App f xs) → Among x xs → IsPart pairs x

-- each side is a part of the pairs
abbrev pub ArePairedParts : List (Tree × Tree) → List (Tree × Tree) → Type 0
ArePairedParts pairs [] = Unit {0}
ArePairedParts pairs (p ∷ ps) = (IsPart pairs p.0 × IsPart pairs p.1) × ArePairedParts pairs ps

-- each bound tree is a part of the pairs, and so is each bound hole
abbrev pub AreBoundParts : List (Tree × Tree) → List (ℕ × Tree) → Type 0
AreBoundParts pairs [] = Unit {0}
AreBoundParts pairs (b ∷ bindings) = (IsPart pairs (Hole b.0) × IsPart pairs b.1) × AreBoundParts pairs bindings

-- the new tree is a part of whatever has the old tree and what is bound as parts
abbrev pub IsAmongParts : List (ℕ × Tree) → Tree → Tree → Type 0
IsAmongParts bindings old new =
    (pairs : List (Tree × Tree)) → AreBoundParts pairs bindings → IsPart pairs old → IsPart pairs new
