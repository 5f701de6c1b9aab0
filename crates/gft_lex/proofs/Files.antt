-- The characters of a file, and what is broken in them.
use Rattle.std.proofs.Common.{false, ◌≡◌, ℕ, zero, suc, ◌+◌, ◌<◌, ◌≤◌, true, nat_lt, List, [], ◌∷◌, ◌++◌, length, take, drop, map, get_or, Some, refl, sym, ap, ◌∙◌, arith, subst, ⊎_elim, append-nil}
use Rattle.std.specs.Prelude.{encode_utf8}
use Rattle.std.specs.List.{list_all}
use Rattle.std.specs.Str.{chars, is_utf8, IsUtf8}
use Rattle.std.specs.Str.Lossy.{utf8_valid_len, valid_len_up_to}
use Rattle.std.proofs.lemmas.Bool.{false_from_ne_true, cond_both, cond-false, and_parts, and_from, or_left, or_right, le-leb, ltb-true, cases_order, cases_lt, le-ltb, false≢true}
use Rattle.std.proofs.lemmas.Bool.Decides.{nat_tests}
use Rattle.std.proofs.lemmas.List.{length-take-le, length-drop, length-append, length-map, take_all, drop_all, take_more, drop_more}
use Rattle.std.proofs.lemmas.List.Folds.{list_all-append}
use Rattle.std.proofs.lemmas.Str.{utf8_valid_len_le, utf8_valid_len-IsUtf8, IsUtf8-nil, IsUtf8-append, IsUtf8-from_is_utf8, is_utf8-from_IsUtf8, IsUtf8-encode, encode_ascii, scalars-chars, encodes-chars, length-le-encodes}
use Rattle.gft_core.specs.declared.place.Place.{Place}
use Rattle.gft_rules.specs.declared.refusal.Refusal.{Refusal}
use Rattle.gft_rules.specs.declared.rule.Rule.TheVariants as R
use Rattle.gft_syntax.specs.declared.token.SourceToken.{SourceToken}
use Rattle.gft_model.specs.Refusals.{refusal, Moment, ByPlace, by_place, IsAccepted}
use Rattle.gft_model.specs.Source.{Lexeme, blank, token, nothing, lexeme_at, after, first_place, tokens_of, Tokens}
use Rattle.gft_model.specs.TokenFaults.{no_character, loose, text_of, moved, Begins, at_start, after_blank, after_token, BreaksTokens, IsClosed}
use Rattle.gft_lex.specs.Texts.{is_closed}
use Rattle.gft_lex.proofs.Enclosed.{closed_true, true_closed, listed, leads}
use Rattle.gft_model.specs.TokenFaults as faults
use Rattle.gft_lex.specs.Later.{is_letter, Reaches, here, onward, IsFaultAt, bad_character, open_string, bad_escape, open_comment, number_too_large, IsLater, not_utf8, at_place, IsWalked, length_of}
use Rattle.gft_lex.specs.Lexemes.{is_character}
use lib.Utf8.{scalars}

-- the front that is text
valid_front : (bs : List ℕ) (n : ℕ) → IsUtf8 (take (valid_len_up_to bs n) bs)
valid_front bs zero = IsUtf8-nil
valid_front bs (suc n) =
    cond_both (is_utf8 (take (suc n) bs)) (suc n) (valid_len_up_to bs n) (λ k. IsUtf8 (take k bs))
    (λ e. IsUtf8-from_is_utf8 (take (suc n) bs) e) (λ e. valid_front bs n)

front_is_text : (bs : List ℕ) → IsUtf8 (take (utf8_valid_len bs) bs)
unfolding utf8_valid_len
front_is_text bs = valid_front bs (length bs)

-- no longer one is text
at_most : (bs : List ℕ) (m n : ℕ) → m ≤ n → is_utf8 (take m bs) ≡ true → m ≤ valid_len_up_to bs n
at_most bs m zero l h = l
at_most bs m (suc n) l h =
    cond_both (is_utf8 (take (suc n) bs)) (suc n) (valid_len_up_to bs n) (λ k. m ≤ k) (λ e. l)
    (λ e. ⊎_elim (λ a. absurd (false≢true (sym e ∙ ap (λ k. is_utf8 (take k bs)) (sym a) ∙ h)))
    (λ a. ⊎_elim (λ b. at_most bs m n (omega (arith, b)) h) (λ b. absurd (omega (arith, b, l))) a) (cases_order m (suc n)))

longest_text : (bs : List ℕ) (m : ℕ) → m ≤ length bs → is_utf8 (take m bs) ≡ true → m ≤ utf8_valid_len bs
unfolding utf8_valid_len
longest_text bs m l h = at_most bs m (length bs) l h

-- each is a character, or past all of them
letters_from : (cs : List ℕ) → scalars cs ≡ true → list_all is_letter cs ≡ true
letters_from [] h = refl
letters_from (c ∷ cs) h =
    let p = and_parts (is_character c) (scalars cs) h in
    and_from _ _ (or_left _ _ p.0) (letters_from cs p.1)

ascii_character : (b : ℕ) → b < 128 → is_character b ≡ true
ascii_character b h = grind (arith, nat_tests)

loose_letter : (b : ℕ) → is_letter (loose b) ≡ true
loose_letter b =
    cond_both (nat_lt b 128) b (no_character + b) (λ c. is_letter c ≡ true)
    (λ e. or_left _ _ (ascii_character b (ltb-true b 128 e)))
    (λ e. or_right _ _ (le-leb no_character (no_character + b) (omega arith)))

loose_letters : (bs : List ℕ) → list_all is_letter (map loose bs) ≡ true
loose_letters [] = refl
loose_letters (b ∷ bs) = and_from _ _ (loose_letter b) (loose_letters bs)

pub text_letters : (bs : List ℕ) → list_all is_letter (text_of bs) ≡ true
text_letters bs =
    let n = utf8_valid_len bs in
    list_all-append is_letter (chars (take n bs)) (map loose (drop n bs))
    ∙ and_from _ _ (letters_from (chars (take n bs)) (scalars-chars (take n bs) (front_is_text bs))) (loose_letters (drop n bs))

-- there are no more than bytes
chars_short : (bs : List ℕ) → IsUtf8 bs → length (chars bs) ≤ length bs
chars_short bs u = let l = length-le-encodes (chars bs) in let e = ap length (encodes-chars bs u) in omega (arith, l, e)

pub text_short : (bs : List ℕ) → length (text_of bs) ≤ length bs
text_short bs =
    let n = utf8_valid_len bs in
    let most = utf8_valid_len_le bs in
    let a = length-append (chars (take n bs)) (map loose (drop n bs)) in
    let b = chars_short (take n bs) (front_is_text bs) in
    let c = length-take-le n bs most in
    let d = length-map (drop n bs) loose in
    let e = length-drop n bs in
    omega (arith, a, b, c, d, e, most)

-- a file in which no byte begins no character is text
one_more : (bs : List ℕ) (n : ℕ) → n < length bs → IsUtf8 (take n bs) → get_or bs n 0 < 128 → IsUtf8 (take (n + 1) bs)
one_more bs n l u h =
    let b = get_or bs n 0 in
    subst IsUtf8 (ap (λ x. take n bs ++ x) (encode_ascii b h) ∙ sym (take_more bs n 0 l))
    (IsUtf8-append (take n bs) (encode_utf8 b) u (IsUtf8-encode b (ascii_character b h)))

first_loose : (bs : List ℕ) → utf8_valid_len bs < length bs → 128 ≤ get_or bs (utf8_valid_len bs) 0
first_loose bs l =
    let n = utf8_valid_len bs in
    ⊎_elim
    (λ a. let m = longest_text bs (n + 1) (omega (arith, l))
    (is_utf8-from_IsUtf8 (take (n + 1) bs) (one_more bs n l (front_is_text bs) a)) in absurd (omega (arith, m)))
    (λ a. a) (cases_lt (get_or bs n 0) 128)

broken_byte : (file : ℕ) (bs : List ℕ) → utf8_valid_len bs < length bs → (r : Refusal) × IsLater (first_place file) (text_of bs) r
broken_byte file bs l =
    let n = utf8_valid_len bs in
    let b = get_or bs n 0 in
    let front = chars (take n bs) in
    let parts : text_of bs
    ≡ front ++ loose b ∷ map loose (drop (n + 1) bs) = ap (λ x. front ++ map loose x) (drop_more bs n 0 l) in
    let large = first_loose bs l in
    let past : no_character ≤ loose b = subst (λ c. no_character ≤ c) (sym (cond-false _ _ _ (le-ltb b 128 large)))
    (omega arith) in (
      refusal R.NotUtf8 (moved (length front) (first_place file) (text_of bs)) [],
      not_utf8 front (map loose (drop (n + 1) bs))
          (loose b) parts past,
    )

pub is_text : (file : ℕ) (bs : List ℕ) → ((r : Refusal) → ¬ (IsLater (first_place file) (text_of bs) r)) → IsUtf8 bs
is_text file bs h =
    ⊎_elim (λ l. let x = broken_byte file bs l in absurd (h x.0 x.1))
    (λ l. subst IsUtf8 (take_all (utf8_valid_len bs) bs l) (front_is_text bs)) (cases_lt (utf8_valid_len bs) (length bs))

pub text_chars : (bs : List ℕ) → IsUtf8 bs → text_of bs ≡ chars bs
text_chars bs u =
    let e = utf8_valid_len-IsUtf8 bs u in
    ap (λ n. chars (take n bs) ++ map loose (drop n bs)) e
    ∙ ap (λ x. chars x ++ map loose (drop (length bs) bs)) (take_all (length bs) bs (omega arith))
    ∙ ap (λ x. chars bs ++ map loose x) (drop_all (length bs) bs (omega arith)) ∙ append-nil (chars bs)

-- what is broken in a file is broken from its first place on
one_lexeme_more : {p q : Place} {cs ds : List ℕ} (n : ℕ) → Reaches p cs q ds → length_of (lexeme_at ds) ≡ Some n
    → Reaches p cs (moved n q ds) (drop n ds)
one_lexeme_more n here e = onward n e here
one_lexeme_more n (onward k f x) e = onward k f (one_lexeme_more n x e)

reaches : {file : ℕ} {text : List ℕ} {p : Place} {cs : List ℕ} → Begins file text p cs → Reaches (first_place file) text p cs
reaches at_start = here
reaches (after_blank {n = n} b e) = one_lexeme_more n (reaches b) (ap length_of e)
reaches (after_token {n = n} b e) = one_lexeme_more n (reaches b) (ap length_of e)

begins_more : (file : ℕ) (text : List ℕ) (p : Place) (cs : List ℕ) (n : ℕ) (l : Lexeme) → Begins file text p cs
    → lexeme_at cs ≡ l → length_of l ≡ Some n
    → Begins file text (moved n p cs) (drop n cs)
begins_more file text p cs n (blank k) b e h =
    let same : k ≡ n = cc in subst (λ n. Begins file text (moved n p cs) (drop n cs)) same (after_blank b e)
begins_more file text p cs n (token t k) b e h =
    let same : k ≡ n = cc in subst (λ n. Begins file text (moved n p cs) (drop n cs)) same (after_token b e)
begins_more file text p cs n nothing b e h = absurd (cc)

begins : (file : ℕ) (text : List ℕ) (p q : Place) (cs ds : List ℕ) → Begins file text p cs → Reaches p cs q ds
    → Begins file text q ds
begins file text p q cs ds b here = b
begins file text p q cs ds b (onward n e x) =
    begins file text (moved n p cs) q (drop n cs) ds (begins_more file text p cs n (lexeme_at cs) b refl e) x

not_closed : (p : Place) (cs : List ℕ) → ¬ (IsClosed p cs) → is_closed cs ≡ false
not_closed p cs n = false_from_ne_true _ (λ h. n (true_closed p cs h))

is_open : (p : Place) (cs : List ℕ) → is_closed cs ≡ false → ¬ (IsClosed p cs)
is_open p cs h c = false≢true (sym h ∙ closed_true p cs c)

pub to_later : (file : ℕ) (bs : List ℕ) (r : Refusal) → BreaksTokens file bs r → IsLater (first_place file) (text_of bs) r
to_later file bs _ (faults.not_utf8 before rest c e n) = not_utf8 before rest c e n
to_later file bs _ (faults.bad_character b l w n m) = at_place (reaches b) (bad_character refl l w n m)
to_later file bs _ (faults.open_string {p = p} {cs = cs} b o) = at_place (reaches b)
    (open_string refl (not_closed (after 34 p) cs o))
to_later file bs _ (faults.bad_escape {p = p} {c = c} {cs = cs} {ds = ds} b o m e l) =
    at_place (reaches b) (bad_escape refl (closed_true (after 34 p) cs o) (listed c ds m refl) e l)
to_later file bs _ (faults.open_comment b o) = at_place (reaches b) (open_comment refl o)
to_later file bs _ (faults.number_too_large b l m) = at_place (reaches b) (number_too_large l m)

fault_broken : (file : ℕ) (bs : List ℕ) (p : Place) (cs : List ℕ) (r : Refusal) → Begins file (text_of bs) p cs
    → IsFaultAt p cs r → BreaksTokens file bs r
fault_broken file bs p cs _ b (bad_character e l w n m) = faults.bad_character (subst (Begins file (text_of bs) p) e b) l w n m
fault_broken file bs p cs _ b (open_string {ds = ds} e o) = faults.open_string (subst (Begins file (text_of bs) p) e b)
    (is_open (after 34 p) ds o)
fault_broken file bs p cs _ b (bad_escape {q = q} {c = c} {ds = ds} e o m n l) =
    faults.bad_escape (subst (Begins file (text_of bs) p) e b) (true_closed (after 34 p) ds o)
    (leads ds (after 34 p) q c o m).leads n l
fault_broken file bs p cs _ b (open_comment e o) = faults.open_comment (subst (Begins file (text_of bs) p) e b) o
fault_broken file bs p cs _ b (number_too_large e l) = faults.number_too_large b e l

pub from_later : (file : ℕ) (bs : List ℕ) (r : Refusal) → IsLater (first_place file) (text_of bs) r → BreaksTokens file bs r
from_later file bs _ (not_utf8 before rest c e n) = faults.not_utf8 before rest c e n
from_later file bs r (at_place {q = q} {ds = ds} x f) = fault_broken file bs q ds r
    (begins file (text_of bs) (first_place file) q (text_of bs) ds at_start x) f

-- a file that was walked over
pub file_tokens : (file : ℕ) (bs : List ℕ) (ts : List SourceToken) → IsWalked file (text_of bs) ts → Tokens file bs ts
file_tokens file bs ts w =
    let u = is_text file bs w.accepted in
    record { is_text = u; spelled = ap (tokens_of file) (sym (text_chars bs u)) ∙ w.spelled; ranged = w.ranged }

moment_none : (file : ℕ) (bs : List ℕ) → ((r : Refusal) → ¬ (IsLater (first_place file) (text_of bs) r))
    → (m : Moment) (r : Refusal)
    → ¬ (ByPlace (BreaksTokens file bs) m r)
moment_none file bs h _ r (by_place x e) = h r (to_later file bs r x)

pub file_accepted : (file : ℕ) (bs : List ℕ) (ts : List SourceToken) → IsWalked file (text_of bs) ts
    → IsAccepted (ByPlace (BreaksTokens file bs))
file_accepted file bs ts w = moment_none file bs w.accepted
