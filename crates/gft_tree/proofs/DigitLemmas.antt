-- The digits of a number, as they are written.
use Rattle.std.proofs.Common.{◌≡◌, ℕ, ◌+◌, ◌/◌, ◌%◌, ◌^◌, ◌≤◌, ◌<◌, true, not, List, [], ◌∷◌, ◌++◌, ap, sym, ◌∙◌, subst, refl, arith, ⊎_elim}
use Rattle.std.specs.Char.{is_ascii_digit, digit_value}
use Rattle.std.specs.Fmt.{decimal}
use Rattle.std.specs.List.{list_all}
use Rattle.std.specs.Str.Parse.{digits_value}
use Rattle.std.proofs.lemmas.Fmt.{decimal_by_steps_wide}
use Rattle.std.proofs.lemmas.Int.Digits.{digits_value_push}
use Rattle.std.proofs.lemmas.List.Folds.{list_all-append}
use Rattle.std.proofs.lemmas.Str.{digit_value_digit}
use Rattle.std.proofs.lemmas.Bool.{and_from, le-leb, ne_eqb, cases_lt}
use Rattle.gft_tree.specs.Lexemes.{are_digits}
use Rattle.gft_tree.specs.Spelling.{is_canonical}

-- digits that write a number, the first no 0 unless it is alone
pub record Writes (n : ℕ) (ds : List ℕ) : Type 0 where
  pub first : ℕ
  pub others : List ℕ
  pub parts : ds ≡ first ∷ others
  pub digit : is_ascii_digit first ≡ true
  pub digits : list_all is_ascii_digit others ≡ true
  pub value : digits_value 10 ds ≡ n
  pub leads : 0 < n → 48 < first
  pub alone : n < 10 → others ≡ []

digit_of : (n : ℕ) → n < 10 → is_ascii_digit (48 + n) ≡ true
digit_of n h = and_from _ _ (le-leb 48 (48 + n) (omega arith)) (le-leb (48 + n) 57 (omega (arith, h)))

value_of : (n : ℕ) → n < 10 → digit_value (48 + n) ≡ n
value_of n h = let e = digit_value_digit (48 + n) (omega arith, omega (arith, h)) in omega (arith, e)

one : (n : ℕ) → n < 10 → Writes n ((48 + n) ∷ [])
one n h = record {
  first = 48 + n;
  others = [];
  parts = refl;
  digit = digit_of n h;
  digits = refl;
  value = let e = value_of n h in omega (arith, e);
  leads = λ p. omega (arith, p);
  alone = λ p. refl;
}

more : (n : ℕ) (ds : List ℕ) → 10 ≤ n → Writes (n / 10) ds → Writes n (ds ++ ((48 + n % 10) ∷ []))
more n ds h w =
    let small : n % 10 < 10 = omega arith in
    record {
      first = w.first;
      others = w.others ++ (48 + n % 10) ∷ [];
      parts = ap (λ x. x ++ (48 + n % 10) ∷ []) w.parts;
      digit = w.digit;
      digits = list_all-append is_ascii_digit w.others ((48 + n % 10) ∷ []) ∙ and_from _ _ w.digits (and_from _ _ (digit_of (n % 10) small) refl);
      value = let p = digits_value_push 10 ds (48 + n % 10) in let v = value_of (n % 10) small in let u = w.value in omega (arith, p, v, u);
      leads = λ p. w.leads (omega (arith, h));
      alone = λ p. absurd (omega (arith, p, h));
    }

pub writes : (n : ℕ) → n < 10 ^ 64 → Writes n (decimal n)
writes n h = decimal_by_steps_wide Writes one more n h

pub writes_digits : (n : ℕ) (ds : List ℕ) → Writes n ds → are_digits ds ≡ true
writes_digits n ds w = let P : List ℕ → Type 0 = λ x. are_digits x ≡ true in subst P (sym w.parts) (and_from _ _ w.digit w.digits)

canonical_case : (n d : ℕ) (es : List ℕ) → (0 < n → 48 < d) → (n < 10 → es ≡ []) → is_canonical (d ∷ es) ≡ true
canonical_case n d [] a b = refl
canonical_case n d (e ∷ es) a b = ⊎_elim
    (λ h. let nil = b h in absurd (cc nil))
    (λ h. let big = a (omega (arith, h)) in ap not (ne_eqb d 48 (omega (arith, big))))
    (cases_lt n 10)

pub writes_canonical : (n : ℕ) (ds : List ℕ) → Writes n ds → is_canonical ds ≡ true
writes_canonical n ds w = let P : List ℕ → Type 0 = λ x. is_canonical x ≡ true in subst P (sym w.parts) (canonical_case n w.first w.others w.leads w.alone)
