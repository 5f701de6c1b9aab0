-- The tokens of a tree's text.
use Rattle.std.specs.Prelude.{◌≡◌, ℕ, Bool, true, false, not, ◌&&◌, ◌||◌, ◌==◌, List, [], ◌∷◌, ◌++◌, flat_map, if◌then◌else◌}
use Rattle.std.specs.Char.{is_whitespace, is_ascii_digit}
use Rattle.std.specs.List.{list_all}
use Rattle.gft_core.specs.Names.{spells_name, continues_name}

-- a token, of characters: an identifier, the digits of a number, what stands between quotes, and three symbols
pub data Lexeme : Type 0 where
  Word : List ℕ → Lexeme
  Number : List ℕ → Lexeme
  Quoted : List ℕ → Lexeme
  Query : Lexeme
  Open : Lexeme
  Close : Lexeme

-- between quotes a quote and a backslash have a backslash before them
abbrev pub escaped : ℕ → List ℕ
escaped c = if (c == 34 || c == 92) then 92 ∷ c ∷ [] else c ∷ []

-- the characters that are written for a token
abbrev pub spelled : Lexeme → List ℕ
spelled (Word w) = w
spelled (Number ds) = ds
spelled (Quoted w) = 34 ∷ (flat_map escaped w ++ 34 ∷ [])
spelled Query = 63 ∷ []
spelled Open = 40 ∷ []
spelled Close = 41 ∷ []

-- one digit or more
abbrev pub are_digits : List ℕ → Bool
are_digits [] = false
are_digits (d ∷ ds) = is_ascii_digit d && list_all is_ascii_digit ds

-- a string stands on one line
abbrev pub stays_on_line : ℕ → Bool
stays_on_line c = not (c == 10)

-- the tokens that there are
abbrev pub is_lexeme : Lexeme → Bool
is_lexeme (Word w) = spells_name w
is_lexeme (Number ds) = are_digits ds
is_lexeme (Quoted w) = list_all stays_on_line w
is_lexeme Query = true
is_lexeme Open = true
is_lexeme Close = true

-- the first of these characters, if there is one, is none of that class
abbrev pub stops : (ℕ → Bool) → List ℕ → Bool
stops class [] = true
stops class (c ∷ cs) = not (class c)

-- a token is the longest one: what follows does not go on with it
abbrev pub ends_before : Lexeme → List ℕ → Bool
ends_before (Word w) rest = stops continues_name rest
ends_before (Number ds) rest = stops is_ascii_digit rest
ends_before (Quoted w) rest = true
ends_before Query rest = true
ends_before Open rest = true
ends_before Close rest = true

-- the characters are these tokens, with white space between them or none, where the rest follows
pub data Cut : List ℕ → List Lexeme → List ℕ → Type 0 where
  done : {rest : List ℕ} → Cut [] [] rest
  space : {c : ℕ} {cs : List ℕ} {tokens : List Lexeme} {rest : List ℕ}
      → is_whitespace c ≡ true → Cut cs tokens rest → Cut (c ∷ cs) tokens rest
  token : {t : Lexeme} {cs : List ℕ} {tokens : List Lexeme} {rest : List ℕ}
      → is_lexeme t ≡ true → ends_before t (cs ++ rest) ≡ true → Cut cs tokens rest → Cut (spelled t ++ cs) (t ∷ tokens) rest
