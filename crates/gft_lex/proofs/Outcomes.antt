-- What one step over sound characters gives.
use Rattle.std.proofs.Common.{◌≡◌, ◌≢◌, ℕ, ◌+◌, ◌*◌, ◌-◌, ◌^◌, ◌<◌, ◌≤◌, Bool, true, false, nat_lt, List, [], ◌∷◌, ◌++◌, length, take, cond, Option, Some, None, Result, Ok, Err, refl, sym, ap, ◌∙◌, arith, subst, ⊎_elim, ◌⊎◌, inl, inr}
use Rattle.std.specs.Prelude.{encode_utf8_all}
use Rattle.std.specs.Char.{is_whitespace}
use Rattle.std.specs.List.{list_all}
use Rattle.std.proofs.lemmas.Bool.{cond-true, cond-false, and_parts, and_from, cases_Bool, lt-ltb, le-ltb, ltb-true, ltb-false, false≢true}
use Rattle.std.proofs.lemmas.Bool.Decides.{nat_tests}
use Rattle.std.proofs.lemmas.List.{length-take-le}
use Rattle.gft_core.specs.declared.place.Place.{Place}
use Rattle.gft_rules.specs.declared.refusal.Refusal.{Refusal}
use Rattle.gft_rules.specs.declared.rule.Rule.TheVariants as R
use Rattle.gft_syntax.specs.declared.token.Reserved.{Reserved as Reserve}
use Rattle.gft_syntax.specs.declared.token.Symbol.{Symbol as Sign}
use Rattle.gft_syntax.specs.declared.token.Symbol.TheVariants as S
use Rattle.gft_syntax.specs.declared.token.TokenForm.{TokenForm}
use Rattle.gft_syntax.specs.declared.token.TokenForm.TheVariants as T
use Rattle.gft_model.specs.Refusals.{refusal, ByPlace, IsFirst}
use Rattle.gft_model.specs.Source.{Lexeme, blank, token, nothing, lexeme_at, longest, number_after, in_range, is_digit, form_of, token_lexeme}
use Rattle.gft_model.specs.TokenFaults.{no_character, moved}
use Rattle.gft_lex.specs.Texts.{is_closed}
use Rattle.gft_lex.specs.declared.step.Met.{Met}
use Rattle.gft_lex.specs.Later.{is_letter, IsFaultAt, bad_character, open_string, bad_escape, open_comment, number_too_large, IsLater, at_place, not_utf8, here, length_of}
use Rattle.gft_lex.specs.Lexemes.{is_character, value_from, block_on}
use Rattle.gft_lex.specs.Steps.{spelled, on_given, met, blank_step, number_step, number_at, word_step, unknown_step, place_past}
use Rattle.gft_lex.specs.Sights.{comment_of}
use Rattle.gft_lex.specs.Spellings.{reserved_in, word_form}
use Rattle.gft_lex.proofs.Broken.{IsRefused, whole_or, broken_first, past_all}
use Rattle.gft_lex.proofs.Firsts.{first}
use Rattle.gft_lex.proofs.Scalars.{small}
use Rattle.gft_lex.proofs.Sound.{IsSound, IsInRange, token_at, token_sound, some_token, no_comment, open_at}
use Rattle.gft_lex.proofs.Closings.{block_is}
use Rattle.gft_lex.proofs.Longest.{longest_some}
use Rattle.gft_lex.proofs.Tokens.{number_form}
use Rattle.gft_lex.proofs.Wholes.{word_reserved, word_identifier}
use lib.Utf8.{scalars}

-- what was met
abbrev pub lexeme_of : Met → Lexeme
lexeme_of m = elim m.form [ None ↦ blank m.length | Some t ↦ token t m.length ]

abbrev pub met_in_range : Place → Met → Bool
met_in_range p m = elim m.form [ None ↦ true | Some t ↦ in_range (record { form = t; place = p }) ]

-- a lexeme in which nothing is broken
pub record Passes (p : Place) (cs : List ℕ) (m : Met) : Type 0 where
  pub lexeme : lexeme_at cs ≡ lexeme_of m
  pub some : 1 ≤ m.length
  pub most : m.length ≤ length cs
  pub sound : IsSound cs
  pub characters : scalars (take m.length cs) ≡ true
  pub ranged : met_in_range p m ≡ true

abbrev pub IsOutcome : Place → List ℕ → Result Met Refusal → Type 0
IsOutcome p cs (Ok m) = Passes p cs m
IsOutcome p cs (Err r) = IsFirst (ByPlace (IsLater p cs)) r

pub outcome : (p : Place) (cs : List ℕ) (x y : Result Met Refusal) → x ≡ y → IsOutcome p cs y → IsOutcome p cs x
outcome p cs x y e h = subst (IsOutcome p cs) (sym e) h

-- so many characters, all of which may be looked at
pub record IsPart (p : Place) (cs : List ℕ) (n : ℕ) : Type 0 where
  pub letters : list_all is_letter cs ≡ true
  pub some : 1 ≤ n
  pub most : n ≤ length cs
  pub sound : IsSound cs

pub passes : (p : Place) (cs : List ℕ) (n : ℕ) (form : Option TokenForm) → IsPart p cs n
    → lexeme_at cs ≡ lexeme_of (met form n) → scalars (take n cs) ≡ true
    → met_in_range p (met form n) ≡ true → Passes p cs (met form n)
passes p cs n form a l s r = record { lexeme = l; some = a.some; most = a.most; sound = a.sound; characters = s; ranged = r }

pub refuses : (p : Place) (cs : List ℕ) (n : ℕ) → IsPart p cs n → length_of (lexeme_at cs) ≡ Some n
    → (b : IsRefused p (take n cs))
    → IsOutcome p cs (Err (refusal R.NotUtf8 (place_past p (take b.index (take n cs))) []))
refuses p cs n a l b = broken_first p cs n b.index a.letters l a.sound a.most b.broken

-- white space and comments
pub blank_outcome : (p : Place) (cs : List ℕ) (n : ℕ) → IsPart p cs n → lexeme_at cs ≡ blank n
    → IsOutcome p cs (blank_step p (take n cs))
blank_outcome p cs n a l =
    let f : Unit {0} → Result Met Refusal = λ u. Ok (met None (length (take n cs))) in
    ⊎_elim
    (λ w. outcome p cs _ _ (ap (λ x. on_given x f) w.passes ∙ ap (λ k. Ok (met None k)) (length-take-le n cs a.most))
    (passes p cs n None a l w.characters refl))
    (λ b. outcome p cs _ _ (ap (λ x. on_given x f) b.refuses) (refuses p cs n a (ap length_of l) b))
    (whole_or p (take n cs))

-- a token whose characters are kept
pub spelled_outcome : (p : Place) (cs : List ℕ) (n : ℕ) (f : List ℕ → Result Met Refusal) → IsPart p cs n
    → length_of (lexeme_at cs) ≡ Some n
    → (scalars (take n cs) ≡ true → IsOutcome p cs (f (encode_utf8_all (take n cs))))
    → IsOutcome p cs (on_given (spelled p (take n cs)) f)
spelled_outcome p cs n f a l h =
    let g : Result (Unit {0}) Refusal
    → Result Met Refusal = λ x. on_given (on_given x (λ _. Ok (encode_utf8_all (take n cs)))) f in
    ⊎_elim
    (λ w. outcome p cs _ _ (ap g w.passes) (h w.characters))
    (λ b. outcome p cs _ _ (ap g b.refuses) (refuses p cs n a l b))
    (whole_or p (take n cs))

-- names
word_case : (p : Place) (s : List ℕ) (o : Option Reserve) → reserved_in s ≡ o
    → in_range (record { form = word_form s; place = p }) ≡ true
word_case p s None e = ap (λ t. in_range (record { form = t; place = p })) (word_identifier s e)
word_case p s (Some w) e = ap (λ t. in_range (record { form = t; place = p })) (word_reserved s w e)

word_ranged : (p : Place) (s : List ℕ) → in_range (record { form = word_form s; place = p }) ≡ true
word_ranged p s = word_case p s (reserved_in s) refl

no_number : (s : List ℕ) (o : Option Reserve) → reserved_in s ≡ o → IsInRange (word_form s)
no_number s None e m t f = let g = sym (word_identifier s e) ∙ f in absurd (cc)
no_number s (Some w) e m t f = let g = sym (word_reserved s w e) ∙ f in absurd (cc)

pub word_range : (s : List ℕ) → IsInRange (word_form s)
word_range s = no_number s (reserved_in s) refl

pub word_outcome : (p : Place) (cs : List ℕ) (n : ℕ) → IsPart p cs n → lexeme_at cs ≡ token (word_form (take n cs)) n
    → IsOutcome p cs (word_step p (take n cs))
word_outcome p cs n a l =
    spelled_outcome p cs n _ a (ap length_of l)
    (λ s. outcome p cs _ _ (ap (λ k. Ok (met (Some (word_form (take n cs))) k)) (length-take-le n cs a.most))
    (passes p cs n (Some (word_form (take n cs))) a l s (word_ranged p (take n cs))))

-- symbols
pub symbol_outcome : (p : Place) (cs : List ℕ) (n : ℕ) (s : Sign) → IsPart p cs n → lexeme_at cs ≡ token (T.Symbol s) n
    → scalars (take n cs) ≡ true
    → IsOutcome p cs (Ok (met (Some (T.Symbol s)) n))
symbol_outcome p cs n s a l h = passes p cs n (Some (T.Symbol s)) a l h refl

-- a refusal at the place itself
not_first : (cs : List ℕ) (c : ℕ) (ds before rest : List ℕ) (b : ℕ) → cs ≡ c ∷ ds → cs ≡ before ++ b ∷ rest
    → is_character c ≡ true → no_character ≤ b
    → 0 < length before
not_first cs c ds [] rest b e f h m = let q : c ≡ b = cc in let l = small c h in absurd (omega (arith, q, l, m))
not_first cs c ds (x ∷ before) rest b e f h m = omega arith

first_or_later : (p : Place) (cs before : List ℕ)
    → (refusal R.NotUtf8 (moved (length before) p cs) [] ≡ refusal R.NotUtf8 p []) ⊎ (0 < length before)
first_or_later p cs [] = inl refl
first_or_later p cs (x ∷ before) = inr (omega arith)

pub no_token : (t : TokenForm) (n : ℕ) → nothing ≡ token t n → ⊥
no_token t n e = absurd (cc)

pub no_length : (n : ℕ) → None ≡ Some n → ⊥
no_length n e = absurd (cc)

pub at_once : (p : Place) (cs : List ℕ) (c : ℕ) (ds : List ℕ) (r : Refusal) → cs ≡ c ∷ ds → is_character c ≡ true
    → r.place ≡ Some p → IsLater p cs r
    → ((s : Refusal) → IsFaultAt p cs s → s ≡ r) → ((n : ℕ) → length_of (lexeme_at cs) ≡ Some n → 0 < n)
    → IsFirst (ByPlace (IsLater p cs)) r
at_once p cs c ds r e h at l f n = first p cs 0 r (record {
  broken = l;
  place = at;
  within = let k = ap length e in omega (arith, k);
  bytes = λ before rest b g m. inr (not_first cs c ds before rest b e g h m);
  faults = λ s q x y. inl (f s x);
  next = n;
})

-- the value of digits
grows : (n : ℕ) (cs : List ℕ) → n ≤ number_after n cs
grows n [] = omega arith
grows n (c ∷ cs) = let g = grows (10 * n + (c - 48)) cs in omega (arith, g)

abbrev kept : ℕ → Option ℕ
kept n = cond (nat_lt n (2 ^ 128)) (Some n) None

value_is : (n : ℕ) (cs : List ℕ) → n < 2 ^ 128 → value_from n cs ≡ kept (number_after n cs)
value_is n [] h = sym (cond-true _ _ _ (lt-ltb n (2 ^ 128) h))
value_is n (c ∷ cs) h =
    let m = n * 10 + (c - 48) in
    let same : m ≡ 10 * n + (c - 48) = omega arith in
    ⊎_elim
    (λ a. cond-true _ _ _ a ∙ value_is m cs (ltb-true m (2 ^ 128) a) ∙ ap (λ m. kept (number_after m cs)) same)
    (λ a. let l = ltb-false m (2 ^ 128) a in
    let g = grows (10 * n + (c - 48)) cs in
    cond-false _ _ _ a ∙ sym
    (cond-false _ _ _ (le-ltb (number_after (10 * n + (c - 48)) cs) (2 ^ 128) (omega (arith, same, l, g)))))
    (cases_Bool (nat_lt m (2 ^ 128)))

digit_character : (c : ℕ) → is_digit c ≡ true → is_character c ≡ true
digit_character c h = grind (arith, nat_tests)

digits_characters : (cs : List ℕ) → list_all is_digit cs ≡ true → scalars cs ≡ true
digits_characters [] h = refl
digits_characters (c ∷ cs) h =
    let p = and_parts (is_digit c) (list_all is_digit cs) h in
    and_from _ _ (digit_character c p.0) (digits_characters cs p.1)

character_in : (front rest : List ℕ) (b : ℕ) → scalars (front ++ b ∷ rest) ≡ true → is_character b ≡ true
character_in [] rest b h = (and_parts (is_character b) (scalars rest) h).0
character_in (c ∷ front) rest b h = character_in front rest b (and_parts (is_character c) (scalars (front ++ b ∷ rest)) h).1

not_refused : (p : Place) (cs : List ℕ) → scalars cs ≡ true → IsRefused p cs → ⊥
not_refused p cs h r =
    let b = r.broken in
    absurd (false≢true (sym b.none ∙ character_in b.front b.rest b.broken (ap scalars (sym b.parts) ∙ h)))

spelled_whole : (p : Place) (cs : List ℕ) → scalars cs ≡ true → spelled p cs ≡ Ok (encode_utf8_all cs)
spelled_whole p cs h =
    ⊎_elim (λ w. ap (λ x. on_given x (λ _. Ok (encode_utf8_all cs))) w.passes) (λ r. absurd (not_refused p cs h r))
    (whole_or p cs)

-- what is broken where one rule can be alone
only_number : (p : Place) (c n : ℕ) (ds : List ℕ) (t : TokenForm) → c ≢ 34 → comment_of c ds ≡ None
    → longest (c ∷ ds) ≡ Some (t, n)
    → (s : Refusal) → IsFaultAt p (c ∷ ds) s → s ≡ refusal R.NumberTooLarge p []
only_number p c n ds t q k l _ (bad_character {c = d} {ds = es} e m w o u) = let f : c ∷ ds ≡ d ∷ es = e in let g = sym l
    ∙ ap longest f ∙ m in absurd (some_token (t, n) g)
only_number p c n ds t q k l _ (open_string e o) = let f : c ≡ 34 = cc in absurd (q f)
only_number p c n ds t q k l _ (bad_escape e o m u v) = let f : c ≡ 34 = cc in absurd (q f)
only_number p c n ds t q k l _ (open_comment {ds = es} e o) = absurd (no_comment c ds es k e)
only_number p c n ds t q k l _ (number_too_large e o) = refl

pub only_open : (p : Place) (c : ℕ) (ds : List ℕ) → c ≡ 34 → is_closed ds ≡ false → lexeme_at (c ∷ ds) ≡ nothing
    → (s : Refusal) → IsFaultAt p (c ∷ ds) s
    → s ≡ refusal R.OpenString p []
only_open p c ds q h l _ (bad_character {c = d} {ds = es} e m w o u) = let f : c ≡ d = cc in absurd (o (sym f ∙ q))
only_open p c ds q h l _ (open_string e o) = refl
only_open p c ds q h l _ (bad_escape {ds = es} e o m u v) = let f : ds
    ≡ es = cc in absurd (false≢true (sym h ∙ ap is_closed f ∙ o))
only_open p c ds q h l _ (open_comment e o) = let f : c ≡ 123 = cc in absurd (omega (arith, f, q))
only_open p c ds q h l _ (number_too_large {n = m} {k = k} {s = s} e o) = absurd (no_token (T.Number m s) k (sym l ∙ e))

brace_begins : (c : ℕ) (ds : List ℕ) → c ≡ 123 → longest (c ∷ ds) ≡ None → ⊥
brace_begins c ds q l = longest_some c ds (T.Symbol S.LeftBrace) (ap (λ c. form_of (c ∷ [])) q) l

only_comment : (p : Place) (c : ℕ) (ds : List ℕ) → c ≡ 123 → lexeme_at (c ∷ ds) ≡ nothing → (s : Refusal)
    → IsFaultAt p (c ∷ ds) s → s ≡ refusal R.OpenComment p []
only_comment p c ds q l _ (bad_character {c = d} {ds = gs} e m w o u) =
    let f : c ∷ ds ≡ d ∷ gs = e in absurd (brace_begins c ds q (ap longest f ∙ m))
only_comment p c ds q l _ (open_string e o) = let f : c ≡ 34 = cc in absurd (omega (arith, f, q))
only_comment p c ds q l _ (bad_escape e o m u v) = let f : c ≡ 34 = cc in absurd (omega (arith, f, q))
only_comment p c ds q l _ (open_comment e o) = refl
only_comment p c ds q l _ (number_too_large {n = m} {k = k} {s = s} e o) = absurd (no_token (T.Number m s) k (sym l ∙ e))

only_character : (p : Place) (c : ℕ) (ds : List ℕ) → c ≢ 34 → comment_of c ds ≡ None → lexeme_at (c ∷ ds) ≡ nothing
    → (s : Refusal) → IsFaultAt p (c ∷ ds) s → (c < no_character) × (s ≡ refusal R.BadCharacter p (encode_utf8_all (c ∷ []) ∷ []))
only_character p c ds q k l _ (bad_character {c = d} {ds = es} e m w o u) =
    let f : c ≡ d = cc in (omega (arith, f, u), ap (λ c. refusal R.BadCharacter p (encode_utf8_all (c ∷ []) ∷ [])) (sym f))
only_character p c ds q k l _ (open_string e o) = let f : c ≡ 34 = cc in absurd (q f)
only_character p c ds q k l _ (bad_escape e o m u v) = let f : c ≡ 34 = cc in absurd (q f)
only_character p c ds q k l _ (open_comment {ds = es} e o) = absurd (no_comment c ds es k e)
only_character p c ds q k l _ (number_too_large {n = m} {k = n} {s = s} e o) = absurd (no_token (T.Number m s) n (sym l ∙ e))

-- digits
too_large : (p : Place) (c n : ℕ) (ds : List ℕ) → c ≢ 34 → comment_of c ds ≡ None → is_character c ≡ true → 1 ≤ n
    → longest (c ∷ ds) ≡ Some (number_form (take n (c ∷ ds)), n) → lexeme_at (c ∷ ds) ≡ token (number_form (take n (c ∷ ds))) n
    → 2 ^ 128 ≤ number_after 0 (take n (c ∷ ds)) → IsFirst (ByPlace (IsLater p (c ∷ ds))) (refusal R.NumberTooLarge p [])
too_large p c n ds q k h m l a g =
    at_once p (c ∷ ds) c ds (refusal R.NumberTooLarge p []) refl h refl (at_place here (number_too_large a g))
    (only_number p c n ds (number_form (take n (c ∷ ds))) q k l)
    (λ j e. let f = sym (ap length_of a) ∙ e in let same : n ≡ j = cc in omega (arith, same, m))

number_range : (xs : List ℕ) → number_after 0 xs < 2 ^ 128 → IsInRange (number_form xs)
number_range xs l m s e = let f : number_after 0 xs ≡ m = cc in omega (arith, f, l)

pub number_outcome : (p : Place) (c n : ℕ) (ds : List ℕ) → list_all is_letter (c ∷ ds) ≡ true → 1 ≤ n → n ≤ length (c ∷ ds)
    → c ≢ 34 → is_whitespace c ≡ false
    → comment_of c ds ≡ None → is_digit c ≡ true → list_all is_digit (take n (c ∷ ds)) ≡ true
    → longest (c ∷ ds) ≡ Some (number_form (take n (c ∷ ds)), n)
    → IsOutcome p (c ∷ ds) (number_step p (take n (c ∷ ds)))
number_outcome p c n ds ls m most q w k d all l =
    let cs = c ∷ ds in
    let xs = take n cs in
    let a : lexeme_at cs ≡ token (number_form xs) n = token_at c ds w k ∙ ap token_lexeme l in
    let v = value_is 0 xs (omega arith) in
    ⊎_elim
    (λ y. let small = ltb-true (number_after 0 xs) (2 ^ 128) y in
    let part : IsPart p cs n = record {
      letters = ls;
      some = m;
      most = most;
      sound = token_sound c n ds
          (number_form xs) q w k l (number_range xs small);
    } in
    spelled_outcome p cs n (number_at p xs (value_from 0 xs)) part (ap length_of a)
    (λ s. outcome p cs _ _ (ap (λ o. number_at p xs o (encode_utf8_all xs)) (v ∙ cond-true _ _ _ y)
    ∙ ap (λ i. Ok (met (Some (number_form xs)) i)) (length-take-le n cs most))
    (passes p cs n (Some (number_form xs)) part a s y)))
    (λ y. let large = ltb-false (number_after 0 xs) (2 ^ 128) y in
    let f = number_at p xs in
    outcome p cs _ _ (ap (λ t. on_given t (f (value_from 0 xs))) (spelled_whole p xs (digits_characters xs all))
    ∙ ap (λ o. f o (encode_utf8_all xs)) (v ∙ cond-false _ _ _ y))
    (too_large p c n ds q k (digit_character c d) m l a large))
    (cases_Bool (nat_lt (number_after 0 xs) (2 ^ 128)))

-- a comment that does not end
pub comment_outcome : (p : Place) (c : ℕ) (ds es : List ℕ) → c ≡ 123 → ds ≡ 45 ∷ es → block_on 0 false es ≡ None
    → IsOutcome p (c ∷ ds) (Err (refusal R.OpenComment p []))
comment_outcome p c ds es q f h =
    let l : lexeme_at (c ∷ ds) ≡ nothing = open_at c ds es q f h in
    let same : c ∷ ds ≡ 123 ∷ 45 ∷ es = ap (λ c. c ∷ ds) q ∙ ap (λ l. 123 ∷ l) f in
    at_once p (c ∷ ds) c ds (refusal R.OpenComment p []) refl (ap is_character q) refl
    (at_place here (open_comment same (sym (block_is es) ∙ h)))
    (only_comment p c ds q l) (λ j e. absurd (no_length j (sym (ap length_of l) ∙ e)))

-- no token
pub nothing_outcome : (p : Place) (c : ℕ) (ds : List ℕ) → list_all is_letter (c ∷ ds) ≡ true → c ≢ 34 → is_whitespace c ≡ false
    → comment_of c ds ≡ None
    → longest (c ∷ ds) ≡ None → IsOutcome p (c ∷ ds) (unknown_step p c)
nothing_outcome p c ds ls q w k l =
    let cs = c ∷ ds in
    let a : lexeme_at cs ≡ nothing = token_at c ds w k ∙ ap token_lexeme l in
    let r = refusal R.BadCharacter p (encode_utf8_all (c ∷ []) ∷ []) in
    let next : (j : ℕ) → length_of (lexeme_at cs) ≡ Some j → 0 < j = λ j e. absurd (no_length j (sym (ap length_of a) ∙ e)) in
    ⊎_elim
    (λ h. outcome p cs _ _ (cond-true _ _ _ h)
    (at_once p cs c ds r refl h refl (at_place here (bad_character refl l w q (small c h)))
    (λ s f. (only_character p c ds q k a s f).1) next))
    (λ h. let large = past_all c (and_parts (is_letter c) (list_all is_letter ds) ls).0 h in
    outcome p cs _ _ (cond-false _ _ _ h) (first p cs 0 (refusal R.NotUtf8 p []) (record {
      broken = not_utf8 [] ds c refl large;
      place = refl;
      within = omega arith;
      bytes = λ before rest b e m. first_or_later p cs before;
      faults = λ s d f e. let u = (only_character p c ds q k a s f).0 in absurd (omega (arith, u, large));
      next = next;
    })))
    (cases_Bool (is_character c))
