-- How many characters lexemes have, as plain functions. They serve the proof alone.
use Rattle.std.specs.Prelude.{ℕ, ◌+◌, ◌*◌, ◌-◌, ◌^◌, List, [], ◌∷◌, Bool, false, ◌&&◌, ◌==◌, nat_lt, Option, Some, None, if◌then◌else◌}
use Rattle.std.specs.List.{position_or_len}
use lib.Utf8.{scalar}

-- a number that is a character
abbrev pub is_character : ℕ → Bool
is_character = scalar

-- how many characters come before the end of the line
abbrev pub line_length : List ℕ → ℕ
line_length cs = position_or_len (λ c. c == 10) cs

-- how many characters a comment has up to its end, after those passed; behind a minus or not
abbrev pub block_on : ℕ → Bool → List ℕ → Option ℕ
block_on i behind_minus [] = None
block_on i behind_minus (c ∷ cs) = if behind_minus && c == 125 then Some (i + 1) else block_on (i + 1) (c == 45) cs

-- how many characters a text has with its closing quote, after those passed; behind a backslash or not
abbrev pub closing_on : ℕ → Bool → List ℕ → Option ℕ
closing_on i escaping [] = None
closing_on i escaping (c ∷ cs) =
    if c == 10 then None
    else if escaping then closing_on (i + 1) false cs
    else if c == 34 then Some (i + 1)
    else closing_on (i + 1) (c == 92) cs

-- the number that digits write after those read, where it is in range
abbrev pub value_from : ℕ → List ℕ → Option ℕ
value_from n [] = Some n
value_from n (c ∷ cs) = if nat_lt (n * 10 + (c - 48)) (2 ^ 128) then value_from (n * 10 + (c - 48)) cs else None
