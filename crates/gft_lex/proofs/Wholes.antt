-- Characters without a byte that begins none.
use Rattle.std.proofs.Common.{◌≡◌, ℕ, suc, ◌+◌, ◌≤◌, Bool, true, false, not, ◌&&◌, List, [], ◌∷◌, length, Option, Some, None, Result, Ok, Err, cond, nat_lt, refl, ap, ◌∙◌, arith, position}
use Rattle.std.specs.List.{position_or_len}
use Rattle.std.proofs.lemmas.Bool.{cond_both, ltb-false}
use Rattle.std.specs.Prelude.{encode_utf8_all}
use Rattle.std.specs.Option.{option_map_or}
use Rattle.std.specs.Str.{chars}
use Rattle.std.proofs.lemmas.Str.{chars-encodes}
use Rattle.gft_core.specs.Names.{IsName, spells_name}
use Rattle.gft_core.specs.declared.place.Place.{Place}
use Rattle.gft_rules.specs.declared.refusal.Refusal.{Refusal}
use Rattle.gft_syntax.specs.declared.token.Reserved.{Reserved as Word}
use Rattle.gft_syntax.specs.declared.token.TokenForm.TheVariants as T
use Rattle.gft_lex.specs.Spellings.{reserved_in, word_form}
use Rattle.gft_lex.specs.Lexemes.{is_character}
use Rattle.gft_lex.specs.Steps.{whole, whole_at, spelled, on_given}
use lib.Utf8.{scalars, scalar}

none_step : (b s : Bool) (n m : ℕ) → (m ≤ n → s ≡ true) → suc m ≤ cond (not (not b)) (1 + n) 0 → b && s ≡ true
none_step true s n m h l = h (omega (arith, l))
none_step false s n m h l = absurd (omega (arith, l))

pub none_broken : (cs : List ℕ) → length cs ≤ position_or_len (λ c. not (is_character c)) cs → scalars cs ≡ true
none_broken [] l = refl
none_broken (c ∷ cs) l = none_step (scalar c) (scalars cs) (position_or_len (λ c. not (is_character c)) cs) (length cs)
    (none_broken cs) l

whole_case : (p : Place) (cs : List ℕ) (o : Option ℕ) → whole_at p cs o ≡ Ok tt → o ≡ None
whole_case p cs None e = refl
whole_case p cs (Some k) e = absurd (cc)

pub whole_scalars : (p : Place) (cs : List ℕ) → whole p cs ≡ Ok tt → scalars cs ≡ true
whole_scalars p cs e =
    let n = position_or_len (λ c. not (is_character c)) cs in
    let none = whole_case p cs (position (λ c. not (is_character c)) cs) e in
    let P : Option ℕ → Type 0 = λ o. o ≡ None → scalars cs ≡ true in
    cond_both (nat_lt n (length cs)) (Some n) None P (λ l e. absurd (cc)) (λ l e. none_broken cs (ltb-false n (length cs) l)) none

-- characters as text
pub record IsSpelled (cs text : List ℕ) : Type 0 where
  pub characters : scalars cs ≡ true
  pub bytes : text ≡ encode_utf8_all cs

spelled_case : (cs text : List ℕ) (w : Result (Unit {0}) Refusal) → (w ≡ Ok tt → scalars cs ≡ true)
    → on_given w (λ _. Ok (encode_utf8_all cs)) ≡ Ok text
    → IsSpelled cs text
spelled_case cs text (Ok u) h e = record { characters = h refl; bytes = cc }
spelled_case cs text (Err r) h e = absurd (cc)

pub spelled_text : (p : Place) (cs text : List ℕ) → spelled p cs ≡ Ok text → IsSpelled cs text
spelled_text p cs text e = spelled_case cs text (whole p cs) (whole_scalars p cs) e

pub spelled_characters : (cs text : List ℕ) → IsSpelled cs text → chars text ≡ cs
spelled_characters cs text s = ap chars s.bytes ∙ chars-encodes cs s.characters

pub spelled_name : (cs text : List ℕ) → IsSpelled cs text → spells_name cs ≡ true → IsName text
spelled_name cs text s n = ap spells_name (spelled_characters cs text s) ∙ n

-- a word, reserved or not
pub word_reserved : (cs : List ℕ) (w : Word) → reserved_in cs ≡ Some w → word_form cs ≡ T.Reserved w
unfolding reserved_in
word_reserved cs w e = ap (λ (o : Option Word). option_map_or T.Reserved o (T.Identifier (encode_utf8_all cs))) e

pub word_identifier : (cs : List ℕ) → reserved_in cs ≡ None → word_form cs ≡ T.Identifier (encode_utf8_all cs)
unfolding reserved_in
word_identifier cs e = ap (λ (o : Option Word). option_map_or T.Reserved o (T.Identifier (encode_utf8_all cs))) e
