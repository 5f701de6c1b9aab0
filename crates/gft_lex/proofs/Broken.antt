-- The first byte that begins no character, within a lexeme.
use Rattle.std.proofs.Common.{◌≡◌, ℕ, suc, ◌+◌, ◌<◌, ◌≤◌, Bool, true, false, not, nat_lt, List, [], ◌∷◌, ◌++◌, length, take, drop, position, cond, Option, Some, None, Ok, Err, refl, sym, ap, ◌∙◌, arith, subst, ⊎_elim, ◌⊎◌, inl, inr, append_assoc}
use Rattle.std.specs.List.{list_all, position_or_len}
use Rattle.std.proofs.lemmas.Bool.{cond_both, and_parts, and_from, or_cases, ltb-false, ltb-true, leb-true, false≢true, cases_order, cases_lt}
use Rattle.std.proofs.lemmas.List.{take_at, take-append-drop, length-append, length-take-le}
use Rattle.std.proofs.lemmas.List.Folds.{list_all-append}
use Rattle.gft_core.specs.declared.place.Place.{Place}
use Rattle.gft_rules.specs.declared.rule.Rule.TheVariants as R
use Rattle.gft_model.specs.Refusals.{refusal, ByPlace, IsFirst}
use Rattle.gft_model.specs.Source.{lexeme_at}
use Rattle.gft_model.specs.TokenFaults.{no_character, moved}
use Rattle.gft_lex.specs.Later.{is_letter, IsLater, not_utf8, length_of}
use Rattle.gft_lex.specs.Lexemes.{is_character}
use Rattle.gft_lex.specs.Steps.{whole, whole_at, place_past}
use Rattle.gft_lex.proofs.Escapes.{IsBroken, break_here}
use Rattle.gft_lex.proofs.Firsts.{IsLeast, first}
use Rattle.gft_lex.proofs.Places.{moved_front}
use Rattle.gft_lex.proofs.Scalars.{large}
use Rattle.gft_lex.proofs.Sound.{IsSound, sound}
use Rattle.gft_lex.proofs.Wholes.{none_broken}
use lib.Utf8.{scalars}

-- the first that is no character
break_past : (k c : ℕ) (cs : List ℕ) → is_character c ≡ true → IsBroken 0 k cs → IsBroken 0 (1 + k) (c ∷ cs)
break_past k c cs h b = record {
  front = c ∷ b.front;
  rest = b.rest;
  broken = b.broken;
  parts = ap (λ l. c ∷ l) b.parts;
  place = let p = b.place in omega (arith, p);
  before = and_from _ _ h b.before;
  none = b.none;
}

broken_step : (b : Bool) (k c : ℕ) (cs : List ℕ) → is_character c ≡ b → cond (not (not b)) (1 + k) 0 < suc (length cs)
    → (k < length cs → IsBroken 0 k cs)
    → IsBroken 0 (cond (not (not b)) (1 + k) 0) (c ∷ cs)
broken_step true k c cs e l h = break_past k c cs e (h (omega (arith, l)))
broken_step false k c cs e l h = break_here 0 0 c cs refl e

broken_at : (cs : List ℕ) → position_or_len (λ c. not (is_character c)) cs < length cs
    → IsBroken 0 (position_or_len (λ c. not (is_character c)) cs) cs
broken_at [] l = absurd (omega (arith, l))
broken_at (c ∷ cs) l = broken_step (is_character c) (position_or_len (λ c. not (is_character c)) cs) c cs refl l (broken_at cs)

-- all are characters, or the first that is none is refused
pub record IsRefused (p : Place) (cs : List ℕ) : Type 0 where
  pub index : ℕ
  pub broken : IsBroken 0 index cs
  pub refuses : whole p cs ≡ Err (refusal R.NotUtf8 (place_past p (take index cs)) [])

pub record IsWhole (p : Place) (cs : List ℕ) : Type 0 where
  pub characters : scalars cs ≡ true
  pub passes : whole p cs ≡ Ok tt

pub whole_or : (p : Place) (cs : List ℕ) → IsWhole p cs ⊎ IsRefused p cs
whole_or p cs =
    let n = position_or_len (λ c. not (is_character c)) cs in
    let P : Option ℕ → Type 0 = λ o. (position (λ c. not (is_character c)) cs ≡ o) → IsWhole p cs ⊎ IsRefused p cs in
    cond_both (nat_lt n (length cs)) (Some n) None P
    (λ l e. inr (record { index = n; broken = broken_at cs (ltb-true n (length cs) l); refuses = ap (whole_at p cs) e }))
    (λ l e. inl (record { characters = none_broken cs (ltb-false n (length cs) l); passes = ap (whole_at p cs) e })) refl

-- what is no character is past all of them
pub past_all : (c : ℕ) → is_letter c ≡ true → is_character c ≡ false → no_character ≤ c
past_all c h n = ⊎_elim (λ a. absurd (false≢true (sym n ∙ a))) (λ a. leb-true no_character c a) (or_cases _ _ h)

pub letter_at : (front rest : List ℕ) (c : ℕ) → list_all is_letter (front ++ c ∷ rest) ≡ true → is_letter c ≡ true
letter_at front rest c h =
    (and_parts (is_letter c) (list_all is_letter rest)
    (and_parts (list_all is_letter front) (list_all is_letter (c ∷ rest))
    (sym (list_all-append is_letter front (c ∷ rest)) ∙ h)).1).0

-- none stands before the first
none_before : (front before r s : List ℕ) (b c : ℕ) → front ++ b ∷ r ≡ before ++ c ∷ s → length before < length front
    → scalars front ≡ true → is_character c ≡ true
none_before [] before r s b c e l h = absurd (omega (arith, l))
none_before (x ∷ front) [] r s b c e l h = let q : x ≡ c = cc in ap is_character (sym q)
    ∙ (and_parts (is_character x) (scalars front) h).0
none_before (x ∷ front) (y ∷ before) r s b c e l h =
    let q : front ++ b ∷ r ≡ before ++ c ∷ s = cc in
    none_before front before r s b c q (omega (arith, l)) (and_parts (is_character x) (scalars front) h).1

-- of two, the one before which all are characters comes first
pub bytes_order : (p : Place) (cs front rest : List ℕ) (b : ℕ) → cs ≡ front ++ b ∷ rest → scalars front ≡ true
    → (before after : List ℕ) (c : ℕ) → cs ≡ before ++ c ∷ after → no_character ≤ c
    → (refusal R.NotUtf8 (moved (length before) p cs) [] ≡ refusal R.NotUtf8 (moved (length front) p cs) [])
    ⊎ (length front < length before)
bytes_order p cs front rest b e h before after c f n =
    ⊎_elim (λ a. inl (ap (λ k. refusal R.NotUtf8 (moved k p cs) []) (sym a)))
    (λ a. ⊎_elim (λ l. inr l)
    (λ l. absurd (false≢true (sym (large c n) ∙ none_before front before rest after b c (sym e ∙ f) l h))) a)
    (cases_order (length front) (length before))

-- within a lexeme that is sound
broken_least : (p : Place) (cs front rest : List ℕ) (b n : ℕ) → cs ≡ front ++ b ∷ rest → list_all is_letter cs ≡ true
    → scalars front ≡ true → is_character b ≡ false
    → length_of (lexeme_at cs) ≡ Some n → length front < n → IsSound cs
    → IsLeast p cs (length front) (refusal R.NotUtf8 (moved (length front) p cs) [])
broken_least p cs front rest b n e ls h f l m s =
    let letter = letter_at front rest b (ap (list_all is_letter) (sym e) ∙ ls) in
    let size = ap length e ∙ length-append front (b ∷ rest) in
    record {
      broken = not_utf8 front rest b e (past_all b letter f);
      place = refl;
      within = omega (arith, size);
      bytes = bytes_order p cs front rest b e h;
      faults = λ r q f g. absurd (sound s p r f);
      next = λ k g. let same : n ≡ k = cc in omega (arith, same, m);
    }

pub broken_first : (p : Place) (cs : List ℕ) (n k : ℕ) → list_all is_letter cs ≡ true → length_of (lexeme_at cs) ≡ Some n
    → IsSound cs → n ≤ length cs
    → IsBroken 0 k (take n cs) → IsFirst (ByPlace (IsLater p cs)) (refusal R.NotUtf8 (place_past p (take k (take n cs))) [])
broken_first p cs n k ls l s m b =
    let rest = b.rest ++ drop n cs in
    let e : cs ≡ b.front ++ b.broken ∷ rest
    = sym (take-append-drop n cs) ∙ ap (λ x. x ++ drop n cs) b.parts ∙ append_assoc b.front (b.broken ∷ b.rest) (drop n cs) in
    let size = sym (length-take-le n cs m) ∙ ap length b.parts ∙ length-append b.front (b.broken ∷ b.rest) in
    let index = b.place in
    let at : place_past p (take k (take n cs)) ≡ moved (length b.front) p cs
    = ap (λ x. place_past p (take k x)) b.parts ∙ ap (place_past p) (take_at b.front (b.broken ∷ b.rest) k (omega (arith, index)))
    ∙ moved_front b.front (b.broken ∷ rest) p ∙ ap (moved (length b.front) p) (sym e) in
    let r = refusal R.NotUtf8 (moved (length b.front) p cs) [] in
    subst (λ q. IsFirst (ByPlace (IsLater p cs)) (refusal R.NotUtf8 q [])) (sym at)
    (first p cs (length b.front) r (broken_least p cs b.front rest b.broken n e ls b.before b.none l (omega (arith, size)) s))

-- behind characters
pub bytes_after : (cs front rest : List ℕ) (b : ℕ) → cs ≡ front ++ b ∷ rest → scalars front ≡ true
    → (before after : List ℕ) (c : ℕ) → cs ≡ before ++ c ∷ after → no_character ≤ c → length front ≤ length before
bytes_after cs front rest b e h before after c f n =
    ⊎_elim (λ l. absurd (false≢true (sym (large c n) ∙ none_before front before rest after b c (sym e ∙ f) l h))) (λ l. l)
    (cases_lt (length before) (length front))
