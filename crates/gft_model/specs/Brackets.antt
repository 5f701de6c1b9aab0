-- Strings with brackets: which words a subtree gives, and whose words they are.
use Rattle.std.specs.Prelude.{ℕ, Bool, false, IsTrue, List, [], ◌∷◌, ◌++◌, map}
use Rattle.std.specs.List.{list_any}
use Rattle.std.specs.Str.{bytes_eq}

-- what a word belongs to: the terms of the grammar, an integer literal or a string literal
pub data Mark : Type 0 where
  grammar integer text : Mark

-- a word with its mark, or one end of the bracket of a position
pub data Piece : Type 0 where
  word : Mark → List ℕ → Piece
  opens : List ℕ → Piece
  closes : Piece

-- the string in the bracket of the position p
abbrev pub bracketed : List ℕ → List Piece → List Piece
bracketed p b = opens p ∷ b ++ closes ∷ []

-- the words with their marks
abbrev pub marked : List Piece → List (Mark × List ℕ)
marked [] = []
marked (word m w ∷ b) = (m, w) ∷ marked b
marked (opens p ∷ b) = marked b
marked (closes ∷ b) = marked b

-- the words alone
abbrev pub erased : List Piece → List (List ℕ)
erased b = map (λ (w : Mark × List ℕ). w.1) (marked b)

-- the piece opens the bracket of the position
abbrev pub is_opening : List ℕ → Piece → Bool
is_opening p (word m w) = false
is_opening p (opens q) = bytes_eq p q
is_opening p closes = false

-- a bracket of the position stands in the string, even an empty one
abbrev pub is_shown : List ℕ → List Piece → Bool
is_shown p b = list_any (is_opening p) b

abbrev pub IsShown : List ℕ → List Piece → Type 0
IsShown p b = IsTrue (is_shown p b)
