-- Faults of a file's characters: where something is neither white space, nor a comment, nor a token.
use Rattle.std.specs.Prelude.{◌≡◌, ℕ, ◌+◌, ◌^◌, ◌<◌, ◌≤◌, List, [], ◌∷◌, ◌++◌, map, fold, take, drop, length, false, nat_lt, chars, encode_utf8_all, None, if◌then◌else◌, ◌≢◌}
use Rattle.std.specs.Char.{is_whitespace}
use Rattle.std.specs.Str.Lossy.{utf8_valid_len}
use Rattle.gft_core.specs.declared.place.Place.{Place}
use Rattle.gft_rules.specs.declared.refusal.Refusal.{Refusal}
use Rattle.gft_rules.specs.declared.rule.Rule.TheVariants as R
use Rattle.gft_syntax.specs.declared.token.TokenForm.TheVariants.{Number}
use Rattle.gft_model.specs.Refusals.{refusal}
use Rattle.gft_model.specs.Source.{blank, token, lexeme_at, longest, block_length, escaped, after, first_place}

-- past all characters: what a byte stands as that begins none
abbrev pub no_character : ℕ
no_character = 1114112

-- the characters of a file; from the first byte on that begins none, its bytes one by one
abbrev pub loose : ℕ → ℕ
loose b = if nat_lt b 128 then b else no_character + b

abbrev pub text_of : List ℕ → List ℕ
text_of bytes = let n = utf8_valid_len bytes in chars (take n bytes) ++ map loose (drop n bytes)

-- the place after so many of the characters
abbrev pub moved : ℕ → Place → List ℕ → Place
moved n p cs = fold (λ q c. after c q) p (take n cs)

-- white space, a comment or a token may begin at the place, and these characters are there
pub data Begins (file : ℕ) (text : List ℕ) : Place → List ℕ → Type 0 where
  at_start : Begins file text (first_place file) text
  after_blank : {p cs n : _} → Begins file text p cs → lexeme_at cs ≡ blank n → Begins file text (moved n p cs) (drop n cs)
  after_token : {p cs t n : _} → Begins file text p cs → lexeme_at cs ≡ token t n → Begins file text (moved n p cs) (drop n cs)

-- in a text one comes from the first place to the second, past no quote and no end of the line; a backslash goes with what
-- is after it
pub data Inside : Place → List ℕ → Place → List ℕ → Type 0 where
  here : {p cs : _} → Inside p cs p cs
  plain : {p q cs ds : _} {c : ℕ} → c ≢ 92 → c ≢ 34 → c ≢ 10 → Inside (after c p) cs q ds → Inside p (c ∷ cs) q ds
  escape : {p q cs ds : _} {c : ℕ} → c ≢ 10 → Inside (after c (after 92 p)) cs q ds → Inside p (92 ∷ c ∷ cs) q ds

-- a text is closed on its line
abbrev pub IsClosed : Place → List ℕ → Type 0
IsClosed p cs = (q : Place) × (ds : List ℕ) × Inside p cs q (34 ∷ ds)

-- what is broken in a file's characters; the earliest place counts
pub data BreaksTokens (file : ℕ) (bytes : List ℕ) : Refusal → Type 0 where
  not_utf8 : (before rest : List ℕ) (c : ℕ) → text_of bytes ≡ before ++ c ∷ rest → no_character ≤ c →
      BreaksTokens file bytes (refusal R.NotUtf8 (moved (length before) (first_place file) (text_of bytes)) [])
  bad_character : {p c cs : _} → Begins file (text_of bytes) p (c ∷ cs) → longest (c ∷ cs) ≡ None → is_whitespace c ≡ false →
      c ≢ 34 → c < no_character → BreaksTokens file bytes (refusal R.BadCharacter p (encode_utf8_all (c ∷ []) ∷ []))
  open_string : {p cs : _} → Begins file (text_of bytes) p (34 ∷ cs) → ¬ (IsClosed (after 34 p) cs) →
      BreaksTokens file bytes (refusal R.OpenString p [])
  bad_escape : {p q c cs ds : _} → Begins file (text_of bytes) p (34 ∷ cs) → IsClosed (after 34 p) cs →
      Inside (after 34 p) cs q (92 ∷ c ∷ ds) → escaped c ≡ None → c < no_character →
      BreaksTokens file bytes (refusal R.BadEscape q (encode_utf8_all (c ∷ []) ∷ []))
  open_comment : {p cs : _} → Begins file (text_of bytes) p (123 ∷ 45 ∷ cs) → block_length cs ≡ None →
      BreaksTokens file bytes (refusal R.OpenComment p [])
  number_too_large : {p n k cs s : _} → Begins file (text_of bytes) p cs → lexeme_at cs ≡ token (Number n s) k → 2 ^ 128 ≤ n →
      BreaksTokens file bytes (refusal R.NumberTooLarge p [])
