-- The walk over a file, step by step.
use Rattle.std.proofs.Common.{◌≡◌, ℕ, zero, suc, ◌+◌, ◌-◌, ◌<◌, ◌≤◌, true, List, [], ◌∷◌, ◌++◌, length, take, drop, Option, Some, None, Result, Ok, Err, refl, sym, ap, ◌∙◌, arith, subst, append_assoc, append-nil}
use Rattle.std.specs.Prelude.{option_map}
use Rattle.std.specs.List.{list_all}
use Rattle.std.proofs.lemmas.Bool.{and_from, and_parts, false≢true}
use Rattle.std.proofs.lemmas.List.{take-append-drop, length-take-le, length-append, length-drop, drop-append-le}
use Rattle.std.proofs.lemmas.List.Folds.{list_all-append}
use Rattle.gft_core.specs.declared.place.Place.{Place}
use Rattle.gft_rules.specs.declared.refusal.Refusal.{Refusal}
use Rattle.gft_rules.specs.declared.refusal.Stop.{Stop}
use Rattle.gft_rules.specs.declared.refusal.Stop.TheVariants.{Refused, NoMemory}
use Rattle.gft_rules.specs.declared.rule.Rule.TheVariants as R
use Rattle.gft_syntax.specs.declared.token.SourceToken.{SourceToken}
use Rattle.gft_syntax.specs.declared.token.TokenForm.{TokenForm}
use Rattle.gft_syntax.specs.declared.token.TokenForm.TheVariants as T
use Rattle.gft_model.specs.Refusals.{refusal, Moment, ByPlace, by_place, IsFirst}
use Rattle.gft_model.specs.Source.{Lexeme, blank, token, nothing, lexeme_at, tokens_from, tokens_of, first_place, after, in_range}
use Rattle.gft_model.specs.TokenFaults.{no_character, moved}
use Rattle.gft_lex.specs.declared.step.Met.{Met}
use Rattle.gft_lex.specs.Later.{is_letter, Reaches, here, onward, IsFaultAt, bad_character, open_string, bad_escape, open_comment, number_too_large, IsLater, not_utf8, at_place, IsWalked, length_of}
use Rattle.gft_lex.specs.Lexemes.{is_character}
use Rattle.gft_lex.specs.Steps.{token_of, step_of, Gives, OnRefused}
use Rattle.gft_lex.proofs.Stepping.{step_outcome}
use Rattle.gft_lex.proofs.Outcomes.{IsOutcome, Passes, lexeme_of, met_in_range, no_token, no_length}
use Rattle.gft_lex.proofs.Places.{moved_more}
use Rattle.gft_lex.proofs.Scalars.{large}
use Rattle.gft_lex.proofs.Sound.{sound}
use lib.Utf8.{scalars}

-- the tokens after so many characters
passed_over : (n : ℕ) (p : Place) (cs : List ℕ) → tokens_from n p cs ≡ tokens_from 0 (moved n p cs) (drop n cs)
passed_over zero p cs = refl
passed_over (suc n) p [] = refl
passed_over (suc n) p (c ∷ cs) = passed_over n (after c p) cs

abbrev go_on : Place → List ℕ → ℕ → Lexeme → Option (List SourceToken)
go_on p cs c l =
    elim l [
      | nothing ↦ None
      | blank n ↦ tokens_from (n - 1) (after c p) cs
      | token t n ↦ option_map (λ ts. record { form = t; place = p } ∷ ts) (tokens_from (n - 1) (after c p) cs)
    ]

less_one : (k : ℕ) → suc k - 1 ≡ k
less_one k = omega arith

over : (p : Place) (c k : ℕ) (cs : List ℕ)
    → tokens_from (suc k - 1) (after c p) cs ≡ tokens_from 0 (moved (suc k) p (c ∷ cs)) (drop (suc k) (c ∷ cs))
over p c k cs = ap (λ n. tokens_from n (after c p) cs) (less_one k) ∙ passed_over k (after c p) cs

kept : (o : Option (List SourceToken)) → o ≡ option_map (λ us. [] ++ us) o
kept None = refl
kept (Some us) = refl

one_step : (p : Place) (c k : ℕ) (cs : List ℕ) (form : Option TokenForm)
    → lexeme_at (c ∷ cs) ≡ lexeme_of (record { form = form; length = suc k })
    → tokens_from 0 p (c ∷ cs)
    ≡ option_map (λ us. token_of p form ++ us) (tokens_from 0 (moved (suc k) p (c ∷ cs)) (drop (suc k) (c ∷ cs)))
one_step p c k cs None l = ap (go_on p cs c) l ∙ over p c k cs ∙ kept _
one_step p c k cs (Some t) l = ap (go_on p cs c) l ∙ ap (option_map (λ ts. record { form = t; place = p } ∷ ts)) (over p c k cs)

split_length : (n : ℕ) → 1 ≤ n → n ≡ suc (n - 1)
split_length n h = omega (arith, h)

step_tokens : (p : Place) (cs : List ℕ) (m : Met) → Passes p cs m
    → tokens_from 0 p cs ≡ option_map (λ us. token_of p m.form ++ us) (tokens_from 0 (moved m.length p cs) (drop m.length cs))
step_tokens p [] m a = let l = a.some in let h = a.most in absurd (omega (arith, l, h))
step_tokens p (c ∷ cs) m a =
    let e = split_length m.length a.some in
    let l = a.lexeme ∙ ap (λ n. lexeme_of (record { form = m.form; length = n })) e in
    one_step p c (m.length - 1) cs m.form l
    ∙ ap (λ n. option_map (λ us. token_of p m.form ++ us) (tokens_from 0 (moved n p (c ∷ cs)) (drop n (c ∷ cs)))) (sym e)

joined : (ts ns : List SourceToken) (o : Option (List SourceToken))
    → option_map (λ us. ts ++ us) (option_map (λ us. ns ++ us) o) ≡ option_map (λ us. (ts ++ ns) ++ us) o
joined ts ns None = refl
joined ts ns (Some us) = ap Some (sym (append_assoc ts ns us))

-- faults that are left after a step
met_length : (form : Option TokenForm) (n : ℕ) → length_of (lexeme_of (record { form = form; length = n })) ≡ Some n
met_length None n = refl
met_length (Some t) n = refl

-- all that come before a byte that begins no character
not_before : (cs : List ℕ) (n : ℕ) (before rest : List ℕ) (c : ℕ) → scalars (take n cs) ≡ true → cs ≡ before ++ c ∷ rest
    → no_character ≤ c → n ≤ length before
not_before cs zero before rest c h e m = omega arith
not_before [] (suc n) [] rest c h e m = absurd (cc)
not_before [] (suc n) (x ∷ before) rest c h e m = absurd (cc)
not_before (y ∷ cs) (suc n) [] rest c h e m =
    let f : y ≡ c = cc in
    absurd (false≢true (sym (large c m) ∙ ap is_character (sym f) ∙ (and_parts (is_character y) (scalars (take n cs)) h).0))
not_before (y ∷ cs) (suc n) (x ∷ before) rest c h e m =
    let f : cs ≡ before ++ c ∷ rest = cc in
    let l = not_before cs n before rest c (and_parts (is_character y) (scalars (take n cs)) h).1 f m in
    omega (arith, l)

sum_back : (n k : ℕ) → n ≤ k → n + (k - n) ≡ k
sum_back n k h = omega (arith, h)

later_bytes : (p : Place) (cs : List ℕ) (n : ℕ) (before rest : List ℕ) (c : ℕ) → scalars (take n cs) ≡ true
    → cs ≡ before ++ c ∷ rest
    → no_character ≤ c → IsLater (moved n p cs) (drop n cs) (refusal R.NotUtf8 (moved (length before) p cs) [])
later_bytes p cs n before rest c h e m =
    let l = not_before cs n before rest c h e m in
    let left : drop n cs ≡ drop n before ++ c ∷ rest = ap (drop n) e ∙ drop-append-le n before (c ∷ rest) l in
    let size : length (drop n before) ≡ length before - n = length-drop n before in
    let at : moved (length (drop n before)) (moved n p cs) (drop n cs) ≡ moved (length before) p cs
    = ap (λ k. moved k (moved n p cs) (drop n cs)) size ∙ moved_more n (length before - n) p cs
    ∙ ap (λ k. moved k p cs) (sum_back n (length before) l) in
    subst (λ q. IsLater (moved n p cs) (drop n cs) (refusal R.NotUtf8 q [])) at (not_utf8 (drop n before) rest c left m)

reached_later : (p : Place) (cs : List ℕ) (m : Met) → Passes p cs m → {q : Place} {ds : List ℕ} → (r : Refusal)
    → Reaches p cs q ds → IsFaultAt q ds r
    → IsLater (moved m.length p cs) (drop m.length cs) r
reached_later p cs m a r here f = absurd (sound a.sound p r f)
reached_later p cs m a {q = q} {ds = ds} r (onward n e x) f =
    let g : Some n ≡ Some m.length = sym e ∙ ap length_of a.lexeme ∙ met_length m.form m.length in
    let same : n ≡ m.length = cc in
    at_place (subst (λ n. Reaches (moved n p cs) (drop n cs) q ds) same x) f

step_onward : (p : Place) (cs : List ℕ) (m : Met) → Passes p cs m → (r : Refusal) → IsLater p cs r
    → IsLater (moved m.length p cs) (drop m.length cs) r
step_onward p cs m a _ (not_utf8 before rest c e n) = later_bytes p cs m.length before rest c a.characters e n
step_onward p cs m a r (at_place x f) = reached_later p cs m a r x f

step_back : (p : Place) (cs : List ℕ) (m : Met) → Passes p cs m → (r : Refusal)
    → IsLater (moved m.length p cs) (drop m.length cs) r → IsLater p cs r
step_back p cs m a _ (not_utf8 before rest c e n) =
    let k = m.length in
    let size = length-take-le k cs a.most in
    let parts : cs ≡ (take k cs ++ before) ++ c ∷ rest
    = sym (take-append-drop k cs) ∙ ap (λ l. take k cs ++ l) e ∙ sym (append_assoc (take k cs) before (c ∷ rest)) in
    let at : moved (length (take k cs ++ before)) p cs ≡ moved (length before) (moved k p cs) (drop k cs)
    = ap (λ j. moved j p cs) (length-append (take k cs) before ∙ ap (λ j. j + length before) size)
    ∙ sym (moved_more k (length before) p cs) in
    subst (λ q. IsLater p cs (refusal R.NotUtf8 q [])) at (not_utf8 (take k cs ++ before) rest c parts n)
step_back p cs m a r (at_place x f) = at_place (onward m.length (ap length_of a.lexeme ∙ met_length m.form m.length) x) f

-- nothing is broken at the end
none_reached : (p : Place) {q : Place} {ds : List ℕ} (cs : List ℕ) → cs ≡ [] → (r : Refusal) → Reaches p cs q ds
    → IsFaultAt q ds r → ⊥
none_reached p cs n r here (bad_character e l w k c) = absurd (cc)
none_reached p cs n r here (open_string e o) = absurd (cc)
none_reached p cs n r here (bad_escape e o m k l) = absurd (cc)
none_reached p cs n r here (open_comment e o) = absurd (cc)
none_reached p cs n r here (number_too_large {n = m} {k = k} {s = s} e o) = absurd
    (no_token (T.Number m s) k (sym (ap lexeme_at n) ∙ e))
none_reached p cs n r (onward k e x) f = absurd (no_length k (sym (ap (λ l. length_of (lexeme_at l)) n) ∙ e))

no_split : (before rest : List ℕ) (c : ℕ) → [] ≡ before ++ c ∷ rest → ⊥
no_split [] rest c e = absurd (cc)
no_split (x ∷ before) rest c e = absurd (cc)

none_left : (p : Place) (cs : List ℕ) → cs ≡ [] → (r : Refusal) → ¬ (IsLater p cs r)
none_left p cs n _ (not_utf8 before rest c e m) = no_split before rest c (sym n ∙ e)
none_left p cs n r (at_place x f) = none_reached p cs n r x f

-- where the walk stands
pub record Stands (file : ℕ) (text : List ℕ) (ts : List SourceToken) (p : Place) (cs : List ℕ) : Type 0 where
  pub tokens : tokens_of file text ≡ option_map (λ us. ts ++ us) (tokens_from 0 p cs)
  pub ranged : list_all in_range ts ≡ true
  pub ahead : (r : Refusal) → IsLater (first_place file) text r → IsLater p cs r
  pub behind : (r : Refusal) → IsLater p cs r → IsLater (first_place file) text r
  pub letters : list_all is_letter cs ≡ true

pub at_first : (file : ℕ) (text : List ℕ) → list_all is_letter text ≡ true → Stands file text [] (first_place file) text
at_first file text h = record { tokens = kept _; ranged = refl; ahead = λ r l. l; behind = λ r l. l; letters = h }

token_ranged : (p : Place) (form : Option TokenForm) (n : ℕ) → met_in_range p (record { form = form; length = n }) ≡ true
    → list_all in_range (token_of p form) ≡ true
token_ranged p None n h = refl
token_ranged p (Some t) n h = and_from _ _ h refl

letters_left : (n : ℕ) (cs : List ℕ) → list_all is_letter cs ≡ true → list_all is_letter (drop n cs) ≡ true
letters_left zero cs h = h
letters_left (suc n) [] h = refl
letters_left (suc n) (c ∷ cs) h = letters_left n cs (and_parts (is_letter c) (list_all is_letter cs) h).1

pub stepped : (file : ℕ) (text : List ℕ) (ts : List SourceToken) (p : Place) (cs : List ℕ) (m : Met) → Stands file text ts p cs
    → Passes p cs m
    → Stands file text (ts ++ token_of p m.form) (moved m.length p cs) (drop m.length cs)
stepped file text ts p cs m s a = record {
  tokens = s.tokens ∙ ap (option_map (λ us. ts ++ us)) (step_tokens p cs m a) ∙ joined ts (token_of p m.form) _;
  ranged = list_all-append in_range ts (token_of p m.form) ∙ and_from _ _ s.ranged (token_ranged p m.form m.length a.ranged);
  ahead = λ r l. step_onward p cs m a r (s.ahead r l);
  behind = λ r l. s.behind r (step_back p cs m a r l);
  letters = letters_left m.length cs s.letters;
}

-- at the end
pub walked : (file : ℕ) (text : List ℕ) (ts : List SourceToken) (p : Place) (cs : List ℕ) → Stands file text ts p cs → cs ≡ []
    → IsWalked file text ts
walked file text ts p cs s e = record {
  spelled = s.tokens ∙ ap (λ cs. option_map (λ us. ts ++ us) (tokens_from 0 p cs)) e ∙ ap Some (append-nil ts);
  ranged = s.ranged;
  accepted = λ r l. none_left p cs e r (s.ahead r l);
}

-- the first from here on is the first of all
by_moments : (P Q : Refusal → Type 0) → ((r : Refusal) → P r → Q r) → (m : Moment) (r : Refusal) → ByPlace P m r → ByPlace Q m r
by_moments P Q f _ r (by_place x e) = by_place (f r x) e

pub first_of_all : (P Q : Refusal → Type 0) → ((r : Refusal) → P r → Q r) → ((r : Refusal) → Q r → P r) → (r : Refusal)
    → IsFirst (ByPlace P) r → IsFirst (ByPlace Q) r
first_of_all P Q f g r x = record {
  moment = x.moment;
  broken = by_moments P Q f x.moment r x.broken;
  no_earlier = λ m s y. x.no_earlier m s (by_moments Q P g m s y);
}

-- what a step answers
pub met_passes : (p : Place) (cs : List ℕ) (m : Met) → list_all is_letter cs ≡ true → 0 < length cs → step_of p cs ≡ Ok m
    → Passes p cs m
met_passes p cs m h l e = subst (IsOutcome p cs) e (step_outcome p cs h l)

pub refused_first : (p : Place) (cs : List ℕ) (r : Refusal) → list_all is_letter cs ≡ true → 0 < length cs
    → step_of p cs ≡ Err r → IsFirst (ByPlace (IsLater p cs)) r
refused_first p cs r h l e = subst (IsOutcome p cs) e (step_outcome p cs h l)

pub on_stop : {X : Type 0} (Y : Type 0) (stop : Stop) (given : Result X Refusal) (P : Refusal → Type 0)
    → Gives {X = X} (Err stop) given → ((r : Refusal) → given ≡ Err r → P r)
    → OnRefused {X = Y} (Err stop) P
on_stop Y NoMemory given P g f = tt
on_stop Y (Refused r) given P g f = f r g

pub on_refused : {X : Type 0} (x : Result X Stop) (P Q : Refusal → Type 0) → OnRefused x P → ((r : Refusal) → P r → Q r)
    → OnRefused x Q
on_refused (Ok x) P Q h f = tt
on_refused (Err NoMemory) P Q h f = tt
on_refused (Err (Refused r)) P Q h f = f r h

-- each step leaves less
pub less : (p : Place) (cs : List ℕ) (m : Met) → Passes p cs m → length (drop m.length cs) < length cs
less p cs m a = let e = length-drop m.length cs in let l = a.some in let h = a.most in omega (arith, e, l, h)
