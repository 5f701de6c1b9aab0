-- What one step over a text gives.
use Rattle.std.proofs.Common.{◌≡◌, ℕ, suc, ◌+◌, ◌<◌, ◌≤◌, true, false, List, [], ◌∷◌, ◌++◌, length, take, drop, Option, Some, None, Ok, Contains, refl, sym, ap, ◌∙◌, arith, subst, ⊎_elim, inl, inr, append_assoc, add-one}
use Rattle.std.specs.Prelude.{encode_utf8_all, is_some}
use Rattle.std.specs.Char.{is_whitespace}
use Rattle.std.specs.List.{list_all}
use Rattle.std.proofs.lemmas.Bool.{and_parts, and_from, false≢true}
use Rattle.std.proofs.lemmas.List.{take-append-drop, take_at, length-append}
use Rattle.gft_core.specs.declared.place.Place.{Place}
use Rattle.gft_rules.specs.declared.refusal.Refusal.{Refusal}
use Rattle.gft_rules.specs.declared.rule.Rule.TheVariants as R
use Rattle.gft_syntax.specs.declared.token.TokenForm.TheVariants as T
use Rattle.gft_model.specs.Refusals.{refusal, ByPlace, IsFirst}
use Rattle.gft_model.specs.Source.{token, nothing, lexeme_at, token_lexeme, longest, quoted_text, after}
use Rattle.gft_model.specs.TokenFaults.{moved}
use Rattle.gft_lex.specs.declared.quoted.Reading.{Reading}
use Rattle.gft_lex.specs.declared.quoted.Reading.TheVariants.{Closed, BadEscape, Broken, Open}
use Rattle.gft_lex.specs.Later.{is_letter, IsFaultAt, bad_character, open_string, bad_escape, open_comment, number_too_large, IsLater, at_place, not_utf8, here, length_of}
use Rattle.gft_lex.specs.Lexemes.{is_character, closing_on}
use Rattle.gft_lex.specs.Sights.{comment_of}
use Rattle.gft_lex.specs.Steps.{place_past, met, read_step, text_at, text_step}
use Rattle.gft_lex.specs.Texts.{reading, is_closed, escapes_from}
use Rattle.gft_lex.proofs.Broken.{past_all, letter_at, bytes_order, bytes_after}
use Rattle.gft_lex.proofs.Closings.{open_longest, bad_longest, text_longest, text_length, closed_is, closing_within}
use Rattle.gft_lex.proofs.Escapes.{breaks, IsBadEscape, escapes, later, IsNotBefore}
use Rattle.gft_lex.proofs.Firsts.{first}
use Rattle.gft_lex.proofs.Forms.{quoted_form}
use Rattle.gft_lex.proofs.Insides.{good, ends, IsInside}
use Rattle.gft_lex.proofs.Outcomes.{IsOutcome, outcome, IsPart, passes, spelled_outcome, at_once, only_open, no_token, no_length}
use Rattle.gft_lex.proofs.Places.{past_moved}
use Rattle.gft_lex.proofs.Readings.{reads}
use Rattle.gft_lex.proofs.Scalars.{small}
use Rattle.gft_lex.proofs.Sound.{IsSound, token_at, no_comment}
use lib.Utf8.{scalars}

-- a text that begins at a place
pub record IsText (c : ℕ) (ds : List ℕ) : Type 0 where
  pub letters : list_all is_letter (c ∷ ds) ≡ true
  pub quote : c ≡ 34
  pub space : is_whitespace c ≡ false
  pub comment : comment_of c ds ≡ None

text_lexeme : (c : ℕ) (ds : List ℕ) → IsText c ds → lexeme_at (c ∷ ds) ≡ token_lexeme (longest (34 ∷ ds))
text_lexeme c ds a = token_at c ds a.space a.comment ∙ ap (λ c. token_lexeme (longest (c ∷ ds))) a.quote

-- it is not closed
open_outcome : (p : Place) (c : ℕ) (ds : List ℕ) → IsText c ds → closing_on 0 false ds ≡ None
    → IsFirst (ByPlace (IsLater p (c ∷ ds))) (refusal R.OpenString p [])
open_outcome p c ds a h =
    let l : lexeme_at (c ∷ ds) ≡ nothing = text_lexeme c ds a ∙ ap token_lexeme (open_longest ds h) in
    let closed : is_closed ds ≡ false = closed_is ds 0 ∙ ap is_some h in
    at_once p (c ∷ ds) c ds (refusal R.OpenString p []) refl (ap is_character a.quote) refl
    (at_place here (open_string (ap (λ c. c ∷ ds) a.quote) closed))
    (only_open p c ds a.quote closed l) (λ j e. absurd (no_length j (sym (ap length_of l) ∙ e)))

-- it is closed: it has so many characters, or a bad escape
data IsClosedAt (c : ℕ) (ds : List ℕ) (n : ℕ) : Type 0 where
  spelled : (t : List ℕ) → quoted_text (take n ds) ≡ Some t → lexeme_at (c ∷ ds) ≡ token (quoted_form (take n ds) t) (n + 1)
      → IsClosedAt c ds n
  flawed : quoted_text (take n ds) ≡ None → lexeme_at (c ∷ ds) ≡ nothing → IsClosedAt c ds n

closed_case : (c : ℕ) (ds : List ℕ) (n : ℕ) (o : Option (List ℕ)) → IsText c ds → closing_on 0 false ds ≡ Some n
    → n ≤ length ds → quoted_text (take n ds) ≡ o
    → IsClosedAt c ds n
closed_case c ds n None a h l e = flawed e (text_lexeme c ds a ∙ ap token_lexeme (bad_longest ds n h e))
closed_case c ds n (Some t) a h l e = spelled t e (text_lexeme c ds a ∙ ap token_lexeme (text_longest ds t n h l e))

closed_at : (c : ℕ) (ds : List ℕ) (n : ℕ) → IsText c ds → closing_on 0 false ds ≡ Some n → n ≤ length ds → IsClosedAt c ds n
closed_at c ds n a h l = closed_case c ds n (quoted_text (take n ds)) a h l refl

no_number : (c : ℕ) (ds : List ℕ) (n m k : ℕ) (s : List ℕ) → IsClosedAt c ds n → lexeme_at (c ∷ ds) ≡ token (T.Number m s) k → ⊥
no_number c ds n m k s (spelled t e l) f = let g : token (quoted_form (take n ds) t) (n + 1) ≡ token (T.Number m s) k = sym l
    ∙ f in absurd (cc)
no_number c ds n m k s (flawed e l) f = absurd (no_token (T.Number m s) k (sym l ∙ f))

-- what is broken in it is an escape
record IsTextFault (p : Place) (c : ℕ) (ds : List ℕ) (s : Refusal) (d : Place) : Type 0 where
  pub character : ℕ
  pub index : ℕ
  pub same : s ≡ refusal R.BadEscape d (encode_utf8_all (character ∷ []) ∷ [])
  pub place : d ≡ moved (suc index) p (c ∷ ds)
  pub order : IsNotBefore 0 index character (reading false 0 [] ds)

text_fault : (p : Place) (c : ℕ) (ds : List ℕ) (n : ℕ) (s : Refusal) (d : Place) → IsText c ds → is_closed ds ≡ true
    → IsClosedAt c ds n
    → IsFaultAt p (c ∷ ds) s → s.place ≡ Some d → IsTextFault p c ds s d
text_fault p c ds n _ d a o k (bad_character {c = x} {ds = es} e m w u v) g = let f : c ≡ x = cc in absurd (u (sym f ∙ a.quote))
text_fault p c ds n _ d a o k (open_string {ds = es} e u) g = let f : ds
    ≡ es = cc in absurd (false≢true (sym u ∙ sym (ap is_closed f) ∙ o))
text_fault p c ds n _ d a o k (bad_escape {q = b} {c = x} {ds = es} e u m v w) g =
    let f : es ≡ ds = cc in
    let same : b ≡ d = cc in
    let y = later ds (after 34 p) 0 [] b x (and_parts (is_letter c) (list_all is_letter ds) a.letters).1
    (subst (λ z. Contains (escapes_from (after 34 p) z) (b, x)) f m) v w in
    record {
      character = x;
      index = y.index;
      same = ap (λ b. refusal R.BadEscape b (encode_utf8_all (x ∷ []) ∷ [])) same;
      place = sym same ∙ y.place ∙ ap (λ c. moved y.index (after c p) ds) (sym a.quote);
      order = y.order;
    }
text_fault p c ds n _ d a o k (open_comment {ds = es} e u) g = absurd (no_comment c ds es a.comment e)
text_fault p c ds n _ d a o k (number_too_large {n = m} {k = j} {s = s} e u) g = absurd (no_number c ds n m j s k e)

-- a byte in it begins no character
length_case : (c : ℕ) (ds : List ℕ) (n j : ℕ) → IsClosedAt c ds n → length_of (lexeme_at (c ∷ ds)) ≡ Some j → n + 1 ≡ j
length_case c ds n j (spelled t e l) f = let g : Some (n + 1) ≡ Some j = sym (ap length_of l) ∙ f in cc
length_case c ds n j (flawed e l) f = absurd (no_length j (sym (ap length_of l) ∙ f))

steps : (k n : ℕ) → k ≡ 0 + n → k + 1 ≡ suc n
steps k n e = omega (arith, e)

broken_text : (p : Place) (c : ℕ) (ds : List ℕ) (n k : ℕ) → IsText c ds → is_closed ds ≡ true → IsClosedAt c ds n
    → reading false 0 [] ds ≡ Broken k → k < n
    → IsFirst (ByPlace (IsLater p (c ∷ ds))) (refusal R.NotUtf8 (place_past p (take (k + 1) (c ∷ ds))) [])
broken_text p c ds n k a o x e inside =
    let cs = c ∷ ds in
    let b = breaks ds 0 k [] e in
    let front = c ∷ b.front in
    let parts : cs ≡ front ++ b.broken ∷ b.rest = ap (λ l. c ∷ l) b.parts in
    let index = b.place in
    let letter = letter_at front b.rest b.broken (ap (list_all is_letter) (sym parts) ∙ a.letters) in
    let size = ap length b.parts ∙ length-append b.front (b.broken ∷ b.rest) in
    let at : place_past p (take (k + 1) cs) ≡ moved (length front) p cs = past_moved (k + 1) p cs
    ∙ ap (λ j. moved j p cs) (steps k (length b.front) index) in
    subst (λ q. IsFirst (ByPlace (IsLater p cs)) (refusal R.NotUtf8 q [])) (sym at)
    (first p cs (length front) (refusal R.NotUtf8 (moved (length front) p cs) []) (record {
      broken = not_utf8 front b.rest b.broken parts (past_all b.broken letter b.none);
      place = refl;
      within = omega (arith, size);
      bytes = bytes_order p cs front b.rest b.broken parts (and_from _ _ (ap is_character a.quote) b.before);
      faults = λ s d f g.
          let y = text_fault p c ds n s d a o x f g in
          let l = subst (IsNotBefore 0 y.index y.character) e y.order in
          inr (suc y.index, y.place, omega (arith, l, index));
      next = λ j f. let m = length_case c ds n j x f in omega (arith, m, inside, index);
    }))

zero_less : (n : ℕ) → suc (0 + n) ≡ suc n
zero_less n = omega arith

same_index : (i n k : ℕ) → k ≡ suc (0 + i) → k ≡ suc (0 + n) → suc i ≡ suc n
same_index i n k e f = omega (arith, e, f)

scalars_more : (front : List ℕ) → scalars front ≡ true → scalars (front ++ 92 ∷ []) ≡ true
scalars_more [] h = refl
scalars_more (c ∷ front) h = let p = and_parts (is_character c) (scalars front) h in and_from _ _ p.0 (scalars_more front p.1)

-- an escape in it stands for nothing
flawed_by : (c : ℕ) (ds : List ℕ) (n k x : ℕ) (p : Place) → IsClosedAt c ds n → IsBadEscape 0 k x ds
    → lexeme_at (c ∷ ds) ≡ nothing
flawed_by c ds n k x p (flawed e l) b = l
flawed_by c ds n k x p (spelled t e l) b =
    absurd (good (take n ds) (drop n ds) t p (moved (length b.front) p ds) x e
    (subst (λ z. Contains (escapes_from p z) (moved (length b.front) p ds, x)) (sym (take-append-drop n ds)) (b.listed p)) b.bad)

escape_text : (p : Place) (c : ℕ) (ds : List ℕ) (n k x : ℕ) → IsText c ds → is_closed ds ≡ true → IsClosedAt c ds n
    → reading false 0 [] ds ≡ BadEscape k x
    → IsFirst (ByPlace (IsLater p (c ∷ ds)))
    (refusal R.BadEscape (place_past p (take k (c ∷ ds))) (encode_utf8_all (x ∷ []) ∷ []))
escape_text p c ds n k x a o y e =
    let cs = c ∷ ds in
    let b = escapes ds 0 k x [] e in
    let names = encode_utf8_all (x ∷ []) ∷ [] in
    let front = c ∷ (b.front ++ 92 ∷ []) in
    let parts : cs ≡ front ++ x ∷ b.rest = ap (λ l. c ∷ l) (b.parts ∙ sym (append_assoc b.front (92 ∷ []) (x ∷ b.rest))) in
    let index = b.place in
    let size = ap length b.parts ∙ length-append b.front (92 ∷ x ∷ b.rest) in
    let front_size = length-append b.front (92 ∷ []) in
    let at : place_past p (take k cs) ≡ moved (suc (length b.front)) p cs = past_moved k p cs
    ∙ ap (λ j. moved j p cs) (index ∙ zero_less (length b.front)) in
    let there : moved (length b.front) (after 34 p) ds
    ≡ moved (suc (length b.front)) p cs = ap (λ c. moved (length b.front) (after c p) ds) (sym a.quote) in
    let before = and_from _ _ (ap is_character a.quote) (scalars_more b.front b.before) in
    let none = flawed_by c ds n k x p y b in
    let fault : IsFaultAt p cs (refusal R.BadEscape (moved (length b.front) (after 34 p) ds) names)
    = bad_escape (ap (λ c. c ∷ ds) a.quote) o (b.listed (after 34 p)) b.bad (small x b.character) in
    subst (λ q. IsFirst (ByPlace (IsLater p cs)) (refusal R.BadEscape q names)) (there ∙ sym at)
    (first p cs (suc (length b.front)) (refusal R.BadEscape (moved (length b.front) (after 34 p) ds) names) (record {
      broken = at_place here fault;
      place = ap Some there;
      within = omega (arith, size);
      bytes = λ f g z h m. let l = bytes_after cs front b.rest x parts before f g z h m in inr (omega (arith, l, front_size));
      faults = λ s d f g.
          let z = text_fault p c ds n s d a o y f g in
          ⊎_elim
          (λ u. let same = u.1 in let at = u.0 in inl (z.same
          ∙ ap (λ q. refusal R.BadEscape q (encode_utf8_all (z.character ∷ []) ∷ []))
          (z.place ∙ ap (λ j. moved j p cs) (same_index z.index (length b.front) k at index) ∙ sym there)
          ∙ ap (λ x. refusal R.BadEscape (moved (length b.front) (after 34 p) ds) (encode_utf8_all (x ∷ []) ∷ [])) (sym same)))
          (λ u. inr (suc z.index, z.place, omega (arith, u, index)))
          (subst (IsNotBefore 0 z.index z.character) e z.order);
      next = λ j f. absurd (no_length j (sym (ap length_of none) ∙ f));
    }))

-- it is a token
text_sound : (c : ℕ) (ds : List ℕ) (n : ℕ) (t : List ℕ) → IsText c ds → is_closed ds ≡ true → quoted_text (take n ds) ≡ Some t
    → lexeme_at (c ∷ ds) ≡ token (quoted_form (take n ds) t) (n + 1) → IsSound (c ∷ ds)
text_sound c ds n t a o e l = record {
  begins = λ d es f m w. let g : c ∷ ds ≡ d ∷ es = f in
      absurd (no_token (quoted_form (take n ds) t) (n + 1)
      (sym (token_at c ds a.space a.comment ∙ ap token_lexeme (ap longest g ∙ m)) ∙ l));
  closed = λ es f u. let g : ds ≡ es = cc in absurd (false≢true (sym u ∙ sym (ap is_closed g) ∙ o));
  escapes = λ p q x es f m u v. let g : es ≡ ds = cc in
      absurd (good (take n ds) (drop n ds) t p q x e
      (subst (λ z. Contains (escapes_from p z) (q, x)) (g ∙ sym (take-append-drop n ds)) m) u);
  comments = λ es f u. no_comment c ds es a.comment f;
  numbers = λ m k s f u. no_number c ds n m k s (spelled t e l) f;
}

closed_text : (p : Place) (c : ℕ) (ds : List ℕ) (n m : ℕ) (t : List ℕ) → IsText c ds → is_closed ds ≡ true
    → closing_on 0 false ds ≡ Some n → n ≤ length ds
    → reading false 0 [] ds ≡ Closed t m → IsOutcome p (c ∷ ds) (read_step p (c ∷ ds) (Closed t m))
closed_text p c ds n m t a o h most e =
    let cs = c ∷ ds in
    let r = reads ds 0 [] t m n e h in
    let k : length r.front ≡ n = text_length ds r.front r.rest r.meant n r.parts r.read h in
    let size = r.size in
    let same : m ≡ n = omega (arith, k, size) in
    let front : take n ds ≡ r.front = ap (take n) r.parts ∙ take_at r.front r.rest n k in
    let meant : quoted_text (take n ds) ≡ Some r.meant = ap quoted_text front ∙ r.read in
    let l : lexeme_at cs ≡ token (quoted_form (take n ds) r.meant) (n + 1) = text_lexeme c ds a
    ∙ ap token_lexeme (text_longest ds r.meant n h most meant) in
    let form : token (quoted_form (take n ds) r.meant) (n + 1) ≡ token (T.Quoted t (encode_utf8_all (take (m + 1) cs))) (m + 1)
    = ap (λ u. token (T.Quoted u (encode_utf8_all (34 ∷ take n ds))) (n + 1)) (sym r.value)
    ∙ ap (λ c. token (T.Quoted t (encode_utf8_all (c ∷ take n ds))) (n + 1)) (sym a.quote)
    ∙ ap (λ j. token (T.Quoted t (encode_utf8_all (take j cs))) (n + 1)) (sym (add-one n))
    ∙ ap (λ n. token (T.Quoted t (encode_utf8_all (take (n + 1) cs))) (n + 1)) (sym same) in
    let part : IsPart p cs (m + 1) = record {
      letters = a.letters;
      some = omega arith;
      most = omega (arith, same, most);
      sound = text_sound c ds n r.meant a o meant l;
    } in
    spelled_outcome p cs (m + 1) (λ s. Ok (met (Some (T.Quoted t s)) (m + 1))) part (ap length_of (l ∙ form))
    (λ s. passes p cs (m + 1) (Some (T.Quoted t (encode_utf8_all (take (m + 1) cs)))) part (l ∙ form) s refl)

-- by what is read
read_outcome : (p : Place) (c : ℕ) (ds : List ℕ) (n : ℕ) (x : Reading) → IsText c ds → is_closed ds ≡ true
    → closing_on 0 false ds ≡ Some n → n ≤ length ds
    → reading false 0 [] ds ≡ x → IsInside n x → IsOutcome p (c ∷ ds) (read_step p (c ∷ ds) x)
read_outcome p c ds n (Closed t m) a o h l e i = closed_text p c ds n m t a o h l e
read_outcome p c ds n (BadEscape k x) a o h l e i = escape_text p c ds n k x a o (closed_at c ds n a h l) e
read_outcome p c ds n (Broken k) a o h l e i = broken_text p c ds n k a o (closed_at c ds n a h l) e i
read_outcome p c ds n Open a o h l e i = absurd i

text_case : (p : Place) (c : ℕ) (ds : List ℕ) (o : Option ℕ) → IsText c ds → closing_on 0 false ds ≡ o
    → IsOutcome p (c ∷ ds) (text_at p (c ∷ ds) o)
text_case p c ds None a h = open_outcome p c ds a h
text_case p c ds (Some n) a h =
    let most : n ≤ length ds = (let l = closing_within 0 false ds n h in omega (arith, l)) in
    read_outcome p c ds n (reading false 0 [] ds) a (closed_is ds 0 ∙ ap is_some h) h most refl (ends ds 0 n [] h).1

pub text_outcome : (p : Place) (c : ℕ) (ds : List ℕ) → IsText c ds → IsOutcome p (c ∷ ds) (text_step p (c ∷ ds))
text_outcome p c ds a = outcome p (c ∷ ds) _ _ refl (text_case p c ds (closing_on 0 false ds) a refl)
