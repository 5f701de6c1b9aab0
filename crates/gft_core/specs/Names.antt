-- Identifiers.
use Rattle.std.specs.Prelude.{◌≡◌, ℕ, Bool, true, false, not, ◌&&◌, ◌||◌, ◌==◌, List, [], ◌∷◌, length}
use Rattle.std.specs.List.{list_all}
use Rattle.std.specs.Str.{chars}
use Rattle.unicode.specs.Binary.{is_xid_start, is_xid_continue}

-- an identifier begins with a character of XID_Start or an underscore
abbrev pub begins_name : ℕ → Bool
begins_name c = is_xid_start c || c == 95

-- and goes on with characters of XID_Continue or apostrophes
abbrev pub continues_name : ℕ → Bool
continues_name c = is_xid_continue c || c == 39

-- an underscore with nothing after it
abbrev pub is_lone : ℕ → List ℕ → Bool
is_lone c cs = c == 95 && length cs == 0

-- the characters of an identifier; the single underscore is none
abbrev pub spells_name : List ℕ → Bool
spells_name [] = false
spells_name (c ∷ cs) = begins_name c && list_all continues_name cs && not (is_lone c cs)

-- a text that is an identifier
abbrev pub is_name : List ℕ → Bool
is_name text = spells_name (chars text)

abbrev pub IsName : List ℕ → Type 0
IsName text = is_name text ≡ true
