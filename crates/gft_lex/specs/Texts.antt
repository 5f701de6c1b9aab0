-- A text between quotes, read up to its first fault, as a plain function. It serves the proof alone.
use Rattle.std.specs.Prelude.{ℕ, ◌+◌, ◌<◌, ◌≤◌, List, [], ◌∷◌, ◌++◌, Bool, true, false, not, if◌then◌else◌, ◌||◌, ◌==◌, length, encode_utf8, Some, None}
use Rattle.gft_core.specs.declared.place.Place.{Place}
use Rattle.gft_model.specs.Source.{escaped, after}
use Rattle.gft_lex.specs.declared.quoted.Reading.{Reading}
use Rattle.gft_lex.specs.Lexemes.{is_character}
use Rattle.gft_lex.specs.declared.quoted.Reading.TheVariants.{Closed, BadEscape, Broken, Open}

-- behind a backslash or not; at a place, after the bytes that were read
abbrev pub reading : Bool → ℕ → List ℕ → List ℕ → Reading
reading escaping i text [] = Open
reading escaping i text (c ∷ cs) =
    if not (is_character c) then Broken i
    else if escaping
    then elim (escaped c) [ None ↦ BadEscape i c | Some d ↦ reading false (i + 1) (text ++ encode_utf8 d) cs ]
    else if c == 34 then Closed text (i + 1)
    else if c == 92 then reading true (i + 1) text cs
    else reading false (i + 1) (text ++ encode_utf8 c) cs

-- its places are among the characters
abbrev pub IsReadWithin : List ℕ → Reading → Type 0
IsReadWithin cs (Closed text n) = n ≤ length cs
IsReadWithin cs (BadEscape i c) = i < length cs
IsReadWithin cs (Broken i) = i < length cs
IsReadWithin cs Open = Unit {0}

-- whether a text after its opening quote is closed on its line; a backslash goes with what is after it
abbrev mutual
  pub is_closed : List ℕ → Bool
  is_closed [] = false
  is_closed (c ∷ cs) =
      elim (c == 92) [ true ↦ is_closed_after cs | false ↦ elim (c == 34 || c == 10) [ true ↦ c == 34 | false ↦ is_closed cs ] ]

  pub is_closed_after : List ℕ → Bool
  is_closed_after [] = false
  is_closed_after (c ∷ cs) = elim (c == 10) [ true ↦ false | false ↦ is_closed cs ]

-- the backslashes of a text up to its closing quote, each with the character after it
abbrev pub escapes_from : Place → List ℕ → List (Place × ℕ)
escapes_from p [] = []
escapes_from p (c ∷ []) = []
escapes_from p (c ∷ d ∷ cs) =
    elim (c == 92) [
      | true ↦ (p, d) ∷ escapes_from (after d (after c p)) cs
      | false ↦ elim (c == 34) [ true ↦ [] | false ↦ escapes_from (after c p) (d ∷ cs) ]
    ]
