-- Faults from a place on, and a file without any. They serve the proof alone.
use Rattle.std.specs.Prelude.{◌≡◌, ℕ, ◌^◌, ◌<◌, ◌≤◌, ◌≢◌, List, [], ◌∷◌, ◌++◌, drop, length, Bool, true, false, ◌||◌, nat_le, encode_utf8_all, Option, Some, None, Contains}
use Rattle.std.specs.Char.{is_whitespace}
use Rattle.std.specs.List.{list_all}
use Rattle.gft_core.specs.declared.place.Place.{Place}
use Rattle.gft_rules.specs.declared.refusal.Refusal.{Refusal}
use Rattle.gft_rules.specs.declared.rule.Rule.TheVariants as R
use Rattle.gft_syntax.specs.declared.token.SourceToken.{SourceToken}
use Rattle.gft_syntax.specs.declared.token.TokenForm.TheVariants.{Number}
use Rattle.gft_model.specs.Refusals.{refusal}
use Rattle.gft_model.specs.Source.{Lexeme, blank, token, nothing, lexeme_at, longest, block_length, escaped, after, first_place, tokens_of, in_range}
use Rattle.gft_model.specs.TokenFaults.{no_character, moved}
use Rattle.gft_lex.specs.Texts.{is_closed, escapes_from}
use Rattle.gft_lex.specs.Lexemes.{is_character}

-- a character, or past all characters
abbrev pub is_letter : ℕ → Bool
is_letter c = is_character c || nat_le no_character c

-- how many characters the lexeme has, where there is one
abbrev pub length_of : Lexeme → Option ℕ
length_of (blank n) = Some n
length_of (token t n) = Some n
length_of nothing = None

-- one lexeme after another leads from a place to another one
pub data Reaches : Place → List ℕ → Place → List ℕ → Type 0 where
  here : {p cs : _} → Reaches p cs p cs
  onward : {p cs q ds : _} (n : ℕ) → length_of (lexeme_at cs) ≡ Some n → Reaches (moved n p cs) (drop n cs) q ds
      → Reaches p cs q ds

-- what is broken where something may begin
pub data IsFaultAt (p : Place) (cs : List ℕ) : Refusal → Type 0 where
  bad_character : {c ds : _} → cs ≡ c ∷ ds → longest (c ∷ ds) ≡ None → is_whitespace c ≡ false → c ≢ 34 → c < no_character →
      IsFaultAt p cs (refusal R.BadCharacter p (encode_utf8_all (c ∷ []) ∷ []))
  open_string : {ds : _} → cs ≡ 34 ∷ ds → is_closed ds ≡ false → IsFaultAt p cs (refusal R.OpenString p [])
  bad_escape : {q c ds : _} → cs ≡ 34 ∷ ds → is_closed ds ≡ true → Contains (escapes_from (after 34 p) ds) (q, c)
      → escaped c ≡ None →
      c < no_character → IsFaultAt p cs (refusal R.BadEscape q (encode_utf8_all (c ∷ []) ∷ []))
  open_comment : {ds : _} → cs ≡ 123 ∷ 45 ∷ ds → block_length ds ≡ None → IsFaultAt p cs (refusal R.OpenComment p [])
  number_too_large : {n k s : _} → lexeme_at cs ≡ token (Number n s) k → 2 ^ 128 ≤ n
      → IsFaultAt p cs (refusal R.NumberTooLarge p [])

-- what is broken from a place on
pub data IsLater (p : Place) (cs : List ℕ) : Refusal → Type 0 where
  not_utf8 : (before rest : List ℕ) (c : ℕ) → cs ≡ before ++ c ∷ rest → no_character ≤ c →
      IsLater p cs (refusal R.NotUtf8 (moved (length before) p cs) [])
  at_place : {q ds r : _} → Reaches p cs q ds → IsFaultAt q ds r → IsLater p cs r

-- the tokens of the characters, and that nothing is broken in them
pub record IsWalked (file : ℕ) (cs : List ℕ) (ts : List SourceToken) : Type 0 where
  pub spelled : tokens_of file cs ≡ Some ts
  pub ranged : list_all in_range ts ≡ true
  pub accepted : (r : Refusal) → ¬ (IsLater (first_place file) cs r)
