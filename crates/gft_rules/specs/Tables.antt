-- Tables of rows that are a code and a text.
use Rattle.std.specs.Prelude.{ℕ, map, Bool, true, not, ◌&&◌, ◌==◌, List, [], ◌∷◌, nat_lt}
use Rattle.std.specs.List.{list_all}
use Rattle.std.specs.Str.{bytes_eq}
use Rattle.std.specs.Borrow.{Bor}

-- the rows, with the bytes of each text
abbrev pub rows_of : List (ℕ × Bor (List ℕ)) → List (ℕ × List ℕ)
rows_of rows = map (λ (r : ℕ × Bor (List ℕ)). (r.0, r.1.now)) rows

-- a row and one after it have different codes and different texts
abbrev pub is_apart : ℕ × List ℕ → ℕ × List ℕ → Bool
is_apart r s = not (r.0 == s.0) && not (bytes_eq r.1 s.1)

-- no code and no text stands twice
abbrev pub is_table : List (ℕ × List ℕ) → Bool
is_table [] = true
is_table (r ∷ rs) = list_all (is_apart r) rs && is_table rs

-- each code is below the codes after it
abbrev pub is_ascending : List (ℕ × List ℕ) → Bool
is_ascending [] = true
is_ascending (r ∷ rs) = list_all (λ (s : ℕ × List ℕ). nat_lt r.0 s.0) rs && is_ascending rs
