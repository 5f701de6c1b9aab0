-- Nonterminals of categories whose first ones rise.
use Rattle.std.proofs.Common.{◌≡◌, ◌≤◌, ◌<◌, ◌+◌, ◌-◌, ℕ, suc, zero, pred, true, List, [], ◌∷◌, length, get_or, refl, ap, ◌∙◌, arith}
use Rattle.std.specs.List.Sorted.{IsNonDecreasingBy}
use Rattle.std.proofs.lemmas.Bool.{and_parts, eqb-true, lt-ltb, le-ltb}
use Rattle.gft_pmcfg.specs.declared.concrete.Info.{Info}
use Rattle.gft_pmcfg.specs.Nonterminals.{nonterminals_of, dimension_of}
use Rattle.gft_pmcfg.specs.Ranges.{are_infos}

-- the first category begins where the categories do
pub head_first : (next : ℕ) (i : Info) (is : List Info) → are_infos next (i ∷ is) ≡ true → i.first ≡ next
head_first next i is h = eqb-true _ _ (and_parts _ _ (and_parts _ _ h).0).0

-- and the others where it ends
pub tail_infos : (next : ℕ) (i : Info) (is : List Info) → are_infos next (i ∷ is) ≡ true
    → are_infos (next + i.count) is ≡ true
tail_infos next i is h = (and_parts _ _ h).1

-- no category begins before them
pub begins_after : (next : ℕ) (is : List Info) (k : ℕ) (d : Info) → are_infos next is ≡ true
    → k < length is → next ≤ (get_or is k d).first
begins_after next [] k d h b = absurd (omega arith)
begins_after next (i ∷ is) zero d h b = omega (arith, head_first next i is h)
begins_after next (i ∷ is) (suc k) d h b =
    omega (arith, begins_after (next + i.count) is k d (tail_infos next i is h) (omega arith))

pub rising : (next : ℕ) (is : List Info) → are_infos next is ≡ true
    → IsNonDecreasingBy (λ (i : Info). i.first) is
rising next [] h i j d le b = absurd (omega arith)
rising next (x ∷ xs) h zero zero d le b = omega arith
rising next (x ∷ xs) h zero (suc j) d le b =
    omega (
      arith,
      head_first next x xs h,
      begins_after (next + x.count) xs j d (tail_infos next x xs h)
          (omega arith),
    )
rising next (x ∷ xs) h (suc i) zero d le b = absurd (omega arith)
rising next (x ∷ xs) h (suc i) (suc j) d le b =
    rising (next + x.count) xs (tail_infos next x xs h) i j d (omega arith) (omega arith)

-- k categories begin at n or before it, and no other one
pub record IsCut (is : List Info) (n k : ℕ) (d : Info) : Type 0 where
  pub within : k ≤ length is
  pub before : (j : ℕ) → j < k → (get_or is j d).first ≤ n
  pub after : k < length is → n < (get_or is k d).first

-- a nonterminal that is before the second category is of the first
in_first : (next n : ℕ) (i : Info) (is : List Info) (d : Info) → are_infos next (i ∷ is) ≡ true
    → n < next + nonterminals_of (i ∷ is)
    → (0 < length is → n < (get_or is 0 d).first) → n < next + i.count
in_first next n i [] d h high after = omega arith
in_first next n i (x ∷ xs) d h high after =
    omega (arith, head_first (next + i.count) x xs (tail_infos next i (x ∷ xs) h), after (omega arith))

-- of k categories that begin at n or before it, the last one has the nonterminal n
pub dimension_at : (next n k : ℕ) (is : List Info) (d : Info) → are_infos next is ≡ true → next ≤ n
    → n < next + nonterminals_of is
    → IsCut is n k d → (1 ≤ k) × ((get_or is (pred k) d).dim ≡ dimension_of is (n - next))
dimension_at next n k [] d h low high cut = absurd (omega arith)
dimension_at next n zero (i ∷ is) d h low high cut =
    absurd (omega (arith, head_first next i is h, cut.after (omega arith)))
dimension_at next n (suc zero) (i ∷ is) d h low high cut =
    let first = in_first next n i is d h high (λ b. cut.after (omega arith)) in
    let here : n - next < i.count = omega arith in
    (omega arith, rw (lt-ltb (n - next) i.count here) refl)
dimension_at next n (suc (suc k)) (i ∷ is) d h low high cut =
    let infos = tail_infos next i is h in
    let some : 0 < length is = omega (arith, cut.within) in
    let past : next + i.count ≤ n =
    omega (arith, cut.before 1 (omega arith), begins_after (next + i.count) is 0 d infos some) in
    let later : i.count ≤ n - next = omega arith in
    let cut' : IsCut is n (suc k) d = record {
      within = omega (arith, cut.within);
      before = λ j b. cut.before (suc j) (omega arith);
      after = λ b. cut.after (omega arith);
    } in
    let rest = dimension_at (next + i.count) n (suc k) is d infos past (omega arith) cut' in
    let same : n - (next + i.count) ≡ n - next - i.count = omega arith in
    (omega arith, rw (le-ltb (n - next) i.count later) (rw (← same) rest.1))

-- the same where the categories begin at 0
pub dimension_from_zero : (n k : ℕ) (is : List Info) (d : Info) → are_infos 0 is ≡ true
    → n < nonterminals_of is → IsCut is n k d
    → (1 ≤ k) × ((get_or is (pred k) d).dim ≡ dimension_of is n)
dimension_from_zero n k is d h high cut =
    let found = dimension_at 0 n k is d h (omega arith) (omega arith) cut in
    let same : n - 0 ≡ n = omega arith in
    (found.0, found.1 ∙ ap (dimension_of is) same)
