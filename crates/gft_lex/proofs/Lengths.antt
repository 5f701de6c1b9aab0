-- Lengths of lexemes.
use Rattle.std.proofs.Common.{◌≡◌, ℕ, suc, ◌+◌, ◌≤◌, Bool, true, false, not, ◌==◌, List, [], ◌∷◌, length, refl, ap, ◌∙◌, arith, position, Option, Some, None, nat_lt, cond, ◌<◌, ◌*◌, ◌^◌, ◌-◌, drop, take, get_or, one-add}
use Rattle.std.specs.List.{prefix_len, position_or_len, list_all}
use Rattle.std.specs.Option.{unwrap_or}
use Rattle.std.proofs.lemmas.Bool.{cond_both, ltb-false, cond-false, le-ltb, and_from}
use Rattle.std.proofs.lemmas.List.{at_drop_more}
use Rattle.gft_lex.specs.Lexemes.{value_from, line_length}

-- the first that fails is where those that pass end
not_not : (b : Bool) → not (not b) ≡ b
not_not true = refl
not_not false = refl

pub passing : (p : ℕ → Bool) (cs : List ℕ) → position_or_len (λ c. not (p c)) cs ≡ prefix_len p cs
passing p [] = refl
passing p (c ∷ cs) = let e = passing p cs in ap (λ b. cond b (1 + position_or_len (λ c. not (p c)) cs) 0) (not_not (p c))
    ∙ ap (λ n. cond (p c) (1 + n) 0) e

stops : (b : Bool) (m n : ℕ) → m ≤ n → cond b (1 + m) 0 ≤ suc n
stops true m n h = omega (arith, h)
stops false m n h = omega arith

pub within : (p : ℕ → Bool) (cs : List ℕ) → prefix_len p cs ≤ length cs
within p [] = omega arith
within p (c ∷ cs) = stops (p c) _ _ (within p cs)

-- the place of the first that passes, or the length
first_or_end : (p : ℕ → Bool) (cs : List ℕ) → unwrap_or (position p cs) (length cs) ≡ position_or_len p cs
first_or_end p cs =
    let n = position_or_len p cs in
    let most = within (λ c. not (p c)) cs in
    let P : Option ℕ → Type 0 = λ o. unwrap_or o (length cs) ≡ n in
    cond_both (nat_lt n (length cs)) (Some n) None P (λ e. refl)
    (λ e. let l = ltb-false n (length cs) e in omega (arith, most, l))

-- how many pass, from the place of the first that fails; how many are before a newline
pub passing_from : (p : ℕ → Bool) (cs : List ℕ) (o : Option ℕ) → o ≡ position (λ c. not (p c)) cs
    → unwrap_or o (length cs) ≡ prefix_len p cs
passing_from p cs o e = ap (λ x. unwrap_or x (length cs)) e ∙ first_or_end (λ c. not (p c)) cs ∙ passing p cs

pub line_from : (cs : List ℕ) (o : Option ℕ) → o ≡ position (λ c. c == 10) cs → unwrap_or o (length cs) ≡ line_length cs
line_from cs o e = ap (λ x. unwrap_or x (length cs)) e ∙ first_or_end (λ c. c == 10) cs

-- a number that passes the limit
pub value_stops : (n : ℕ) (cs : List ℕ) (i : ℕ) → i < length cs → (n * 10 < 2 ^ 128 → ⊥) → value_from n (drop i cs) ≡ None
value_stops n cs i h big =
    at_drop_more (value_from n) cs i 0 h
    ∙ cond-false _ _ _ (le-ltb (n * 10 + (get_or cs i 0 - 48)) (2 ^ 128) (omega (arith, big)))

-- each of those that pass does
passing_step : (p : ℕ → Bool) (c : ℕ) (cs : List ℕ) (b : Bool) → p c ≡ b → list_all p (take (prefix_len p cs) cs) ≡ true
    → list_all p (take (cond b (1 + prefix_len p cs) 0) (c ∷ cs)) ≡ true
passing_step p c cs true e h = ap (λ n. list_all p (take n (c ∷ cs))) (one-add (prefix_len p cs)) ∙ and_from _ _ e h
passing_step p c cs false e h = refl

pub prefix_passes : (p : ℕ → Bool) (cs : List ℕ) → list_all p (take (prefix_len p cs) cs) ≡ true
prefix_passes p [] = refl
prefix_passes p (c ∷ cs) = passing_step p c cs (p c) refl (prefix_passes p cs)
