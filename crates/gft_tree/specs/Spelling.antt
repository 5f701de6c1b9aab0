-- What a text spells.
use Rattle.std.specs.Prelude.{◌≡◌, ℕ, ◌+◌, ◌-◌, ◌^◌, Bool, true, false, not, ◌&&◌, ◌==◌, nat_lt, List, [], ◌∷◌, encode_utf8_all, if◌then◌else◌}
use Rattle.std.specs.Str.Parse.{digits_value}
use Rattle.gft_core.specs.Words.{is_word}
use Rattle.gft_core.specs.declared.tree.Tree.{Tree}
use Rattle.gft_tree.specs.Lexemes.{Lexeme, Word, Number, Quoted, Query, Open, Close, Cut}
use Rattle.gft_tree.specs.Grammar.{IsTree}

-- where a token stands: whether right behind a `?`, and behind how many parentheses that are open
pub record Context : Type 0 where
  pub behind_query : Bool
  pub opened : ℕ

abbrev pub outside : Context
outside = record { behind_query = false; opened = 0 }

-- where the next token stands
abbrev pub after : Context → Lexeme → Context
after at (Word w) = record { behind_query = false; opened = at.opened }
after at (Number ds) = record { behind_query = false; opened = at.opened }
after at (Quoted w) = record { behind_query = false; opened = at.opened }
after at Query = record { behind_query = true; opened = at.opened }
after at Open = record { behind_query = false; opened = at.opened + 1 }
after at Close = record { behind_query = false; opened = at.opened - 1 }

-- where the token behind these stands
abbrev pub after_all : Context → List Lexeme → Context
after_all at [] = at
after_all at (t ∷ ts) = after_all (after at t) ts

-- digits without a leading zero
abbrev pub is_canonical : List ℕ → Bool
is_canonical [] = true
is_canonical (d ∷ []) = true
is_canonical (d ∷ e ∷ ds) = not (d == 48)

-- an integer is below 2 ^ 128, and a hole's number from 1 to 2 ^ 32 - 1
abbrev pub is_in_range : Bool → ℕ → Bool
is_in_range behind_query n = if behind_query then nat_lt 0 n && nat_lt n (2 ^ 32) else nat_lt n (2 ^ 128)

-- a number is canonical and in range, a string is one word, and at most 200 parentheses are open at once
abbrev pub fits : Context → Lexeme → Bool
fits at (Word w) = true
fits at (Number ds) = is_canonical ds && is_in_range at.behind_query (digits_value 10 ds)
fits at (Quoted w) = is_word (encode_utf8_all w)
fits at Query = true
fits at Open = nat_lt at.opened 200
fits at Close = true

-- each of the tokens fits where it stands
abbrev pub all_fit : Context → List Lexeme → Bool
all_fit at [] = true
all_fit at (t ∷ ts) = fits at t && all_fit (after at t) ts

-- the characters are spelled like a tree, whatever its numbers, its strings and its depth
abbrev pub HasShape : List ℕ → Tree → Type 0
HasShape text t = (tokens : List Lexeme) × Cut text tokens [] × IsTree tokens t

-- the characters spell the tree
abbrev pub Spells : List ℕ → Tree → Type 0
Spells text t = (tokens : List Lexeme) × Cut text tokens [] × IsTree tokens t × (all_fit outside tokens ≡ true)
