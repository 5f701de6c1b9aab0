-- The most general typed instance of a pattern.
use Rattle.std.specs.Prelude.{◌≡◌, ◌==◌, ℕ, zero, suc, ◌+◌, Bool, true, IsTrue, ◌&&◌, nat_le, nat_lt, if◌then◌else◌, List, [], ◌∷◌, length, map, slice_get, Some}
use Rattle.gft_core.specs.declared.tree.Tree.{Tree, Hole}
use Rattle.gft_pmcfg.specs.declared.signature.AType.{AType}
use Rattle.gft_pmcfg.specs.declared.signature.Cat.{Cat}
use Rattle.gft_pmcfg.specs.declared.signature.Abstract.{Abstract}
use Rattle.gft_tree.specs.Trees.{greatest}
use Rattle.gft_model.specs.Trees.{IsHole, IsInstance, holes_of}
use Rattle.gft_model.specs.Typing.{HasType, IsAdmitted, IsTyped, type_at, numbered_from}

-- each hole is one of those before it, whose numbers go from 1 up to next, or it is next itself
abbrev pub are_numbered : ℕ → List ℕ → Bool
are_numbered next [] = true
are_numbered next (k ∷ ks) =
    if nat_le 1 k && nat_lt k next then are_numbered next ks else k == next && are_numbered (next + 1) ks

-- the holes are numbered from 1 by first occurrence
abbrev pub IsNumbered : Tree → Type 0
IsNumbered t = IsTrue (are_numbered 1 (holes_of t))

-- the solution of a pattern: a typed instance of which every typed instance of the pattern is an instance
pub record IsSolution (a : Abstract) (pattern solution : Tree) : Type 0 where
  pub instance : IsInstance pattern solution
  pub typed : IsTyped a solution
  pub general : (t : Tree) → IsInstance pattern t → IsTyped a t → IsInstance solution t
  pub numbered : IsNumbered solution

-- n holes, numbered on from a number
abbrev pub holes_from : ℕ → ℕ → List Tree
holes_from k zero = []
holes_from k (suc n) = Hole k ∷ holes_from (suc k) n

-- the type of a solution and those of its holes in the order of their numbers
pub data HasSolvedTypes (a : Abstract) (cat : ℕ) (solution : Tree) : AType → List AType → Type 0 where
  -- one hole has its category, with a further hole for each index, numbered after it in the order of the
  -- context
  hole : {k : _} {category : Cat} → IsHole solution k → slice_get a.cats cat ≡ Some category →
      HasSolvedTypes a cat solution (record { cat = cat; args = holes_from 2 (length category.context) })
      (record { cat = cat; args = holes_from 2 (length category.context) } ∷ map
      (type_at (holes_from 2 (length category.context))) category.context)
  -- another tree has the type that its own holes give
  other : {type types : _} → ((k : ℕ) → ¬ IsHole solution k) → length types ≡ greatest (holes_of solution) →
      IsAdmitted a (numbered_from 1 types) → HasType a (numbered_from 1 types) solution type →
      HasSolvedTypes a cat solution type types
