-- Reserved words are found by their bytes.
use Rattle.std.proofs.Common.{◌≡◌, ℕ, ◌+◌, Bool, true, false, not, ◌&&◌, List, [], ◌∷◌, map, Option, Some, None, cond, nat_lt, bytes_eq, refl, sym, ap, ◌∙◌, position, one-add, subst}
use Rattle.std.specs.Prelude.{slice_get, option_and_then, IsUtf8, encode_utf8_all}
use Rattle.std.specs.Str.{chars}
use Rattle.std.specs.List.{list_all, position_or_len}
use Rattle.std.proofs.lemmas.Bool.{and_parts, cond_both, ltb-false}
use Rattle.std.proofs.lemmas.Bool.Decides.{same_from_decides, Decides-like}
use Rattle.std.proofs.lemmas.Option.{slice_get_past}
use Rattle.std.proofs.lemmas.Slice.Eq.{bytes_eq-Decides}
use Rattle.std.proofs.lemmas.Str.{encodes-chars}
use Rattle.gft_syntax.specs.declared.token.Reserved.{Reserved}
use Rattle.gft_model.specs.Source.{spelled_in, reserved_words}
use Rattle.gft_lex.specs.Spellings.{rows_from, word_rows, reserved_in, words_in_order}
use lib.Utf8

-- the word is ASCII
abbrev is_plain : List ℕ → Bool
is_plain w = bytes_eq (encode_utf8_all w) w && bytes_eq (chars w) w

same_text : (xs ys : List ℕ) → bytes_eq xs ys ≡ true → xs ≡ ys
same_text xs ys h = (bytes_eq-Decides xs ys).0 h

same_word : (text w : List ℕ) → IsUtf8 text → is_plain w ≡ true → bytes_eq (chars text) w ≡ bytes_eq w text
same_word text w u h =
    let p = and_parts _ _ h in
    let written = same_text (encode_utf8_all w) w p.0 in
    let read = same_text (chars w) w p.1 in
    same_from_decides _ _ (bytes_eq-Decides (chars text) w)
    (Decides-like (bytes_eq w text) (λ (e : w ≡ text). ap chars (sym e) ∙ read)
    (λ (e : chars text ≡ w). sym written ∙ ap encode_utf8_all (sym e) ∙ encodes-chars text u) (bytes_eq-Decides w text))

-- the first with the spelling
abbrev first_row : List ℕ → ℕ → List (List ℕ × Reserved) → ℕ
first_row text n es = position_or_len (λ (r : ℕ × List ℕ). bytes_eq r.1 text) (rows_from n es)

step : (a b : Bool) (w : Reserved) (ws : List Reserved) (i : ℕ) (o : Option Reserved) → a ≡ b → o ≡ slice_get ws i
    → cond a (Some w) o ≡ slice_get (w ∷ ws) (cond (not b) (1 + i) 0)
step a true w ws i o e h = ap (λ x. cond x (Some w) o) e
step a false w ws i o e h = ap (λ x. cond x (Some w) o) e ∙ h ∙ ap (slice_get (w ∷ ws)) (sym (one-add i))

found : (text : List ℕ) → IsUtf8 text → (n : ℕ) (es : List (List ℕ × Reserved))
    → list_all (λ (e : List ℕ × Reserved). is_plain e.0) es ≡ true
    → spelled_in es (chars text) ≡ slice_get (map (λ (e : List ℕ × Reserved). e.1) es) (first_row text n es)
found text u n [] h = refl
found text u n (e ∷ es) h =
    let p = and_parts _ _ h in
    step (bytes_eq (chars text) e.0) (bytes_eq e.0 text) e.1 (map (λ (e : List ℕ × Reserved). e.1) es)
    (first_row text (n + 1) es) (spelled_in es (chars text))
    (same_word text e.0 u p.0) (found text u (n + 1) es p.1)

plain_words : list_all (λ (e : List ℕ × Reserved). is_plain e.0) reserved_words ≡ true
unfolding chars lib.Utf8.encode
plain_words = refl

pub reserved_found : (text : List ℕ) → IsUtf8 text
    → reserved_in (chars text) ≡ slice_get words_in_order (first_row text 0 reserved_words)
unfolding reserved_in words_in_order
reserved_found text u = found text u 0 reserved_words plain_words

-- by the place at which a row has the bytes
pub by_place : (text : List ℕ) → IsUtf8 text → (o : Option ℕ) → o ≡ position (λ (r : ℕ × List ℕ). bytes_eq r.1 text) word_rows
    → reserved_in (chars text) ≡ option_and_then (slice_get words_in_order) o
unfolding word_rows words_in_order
by_place text u o e =
    let i = first_row text 0 reserved_words in
    let words = map (λ (e : List ℕ × Reserved). e.1) reserved_words in
    let P : Option ℕ → Type 0 = λ o. reserved_in (chars text) ≡ option_and_then (slice_get words) o in
    subst P (sym e) (cond_both (nat_lt i 39) (Some i) None P (λ l. reserved_found text u)
    (λ l. reserved_found text u ∙ slice_get_past words i (ltb-false i 39 l)))
