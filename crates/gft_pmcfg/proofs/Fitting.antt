-- Nonterminals of a category, looked up by the category.
use Rattle.std.proofs.Common.{◌≡◌, ◌≤◌, ◌<◌, ◌+◌, ◌-◌, ◌&&◌, ◌==◌, ℕ, suc, zero, Bool, true, false, nat_lt, List, [], ◌∷◌, length, map, get_or, drop, slice_get, Option, Some, None, inl, inr, refl, sym, ap, ◌∙◌, arith, rules}
use Rattle.std.proofs.lemmas.Bool.{and_parts, and_from, eqb-true, ltb-true, lt-ltb, le-ltb, le-leb, eq-eqb, cases_lt}
use Rattle.std.proofs.Math.Seq.{drop-cons}
use Rattle.gft_pmcfg.specs.declared.signature.AType.{AType}
use Rattle.gft_pmcfg.specs.declared.concrete.Info.{Info}
use Rattle.gft_pmcfg.specs.Nonterminals.{nonterminals_of, category_of, dimension_of}
use Rattle.gft_pmcfg.specs.Dimensions.{dim_of, dims_of}
use Rattle.gft_pmcfg.specs.Ranges.{are_infos, is_of, are_of, is_listed}
use Rattle.gft_pmcfg.proofs.Firsts.{head_first, tail_infos}

-- a category that is listed begins where the others do or later
later : (next : ℕ) (is : List Info) (cat : ℕ) (x : Info) → are_infos next is ≡ true → slice_get is cat ≡ Some x → next ≤ x.first
later next [] cat x h e = absurd cc
later next (i ∷ is) zero x h e = let same : i ≡ x = cc in omega (arith, head_first next i is h, ap (λ (k : Info). k.first) same)
later next (i ∷ is) (suc cat) x h e = omega (arith, later (next + i.count) is cat x (tail_infos next i is h) e)

-- a number within a category is one of its nonterminals
pub inside : (next n : ℕ) (is : List Info) (cat : ℕ) (x : Info) → are_infos next is ≡ true → slice_get is cat ≡ Some x
    → x.first ≤ n → n < x.first + x.count → (n - next < nonterminals_of is) × (category_of is (n - next) ≡ cat)
inside next n [] cat x h e low high = absurd cc
inside next n (i ∷ is) zero x h e low high =
    let same : i ≡ x = cc in
    let first : i.first ≡ x.first = ap (λ (k : Info). k.first) same in
    let count : i.count ≡ x.count = ap (λ (k : Info). k.count) same in
    let here : n - next < i.count = omega (arith, head_first next i is h, first, count) in
    (omega (arith, here), rw (lt-ltb (n - next) i.count here) refl)
inside next n (i ∷ is) (suc cat) x h e low high =
    let begins = later (next + i.count) is cat x (tail_infos next i is h) e in
    let past : i.count ≤ n - next = omega (arith, begins) in
    let rest = inside (next + i.count) n is cat x (tail_infos next i is h) e low high in
    let same : n - next - i.count ≡ n - (next + i.count) = omega arith in
    (omega (arith, rest.0, past), rw (le-ltb (n - next) i.count past) (rw same (omega (arith, rest.1))))

-- the dimension of a category after the first
past_first : (i : Info) (is : List Info) (c : ℕ) → dim_of (i ∷ is) (1 + c) ≡ dim_of is c
past_first i is c = let e : 1 + c ≡ suc c = omega arith in rw e refl

-- a nonterminal has the dimension of its category
pub dim_same : (is : List Info) (n : ℕ) → n < nonterminals_of is → dimension_of is n ≡ dim_of is (category_of is n)
dim_same [] n b = absurd (omega arith)
dim_same (i ∷ is) n b = elim (cases_lt n i.count) [
  | inl here ↦ rw (lt-ltb n i.count here) refl
  | inr past ↦ rw (le-ltb n i.count past) (dim_same is (n - i.count) (omega (arith, b)) ∙ sym (past_first i is (category_of is (n - i.count))))
]

-- so has one of the category
pub dim_of_category : (is : List Info) (cat n : ℕ) → is_of is cat n ≡ true → dimension_of is n ≡ dim_of is cat
dim_of_category is cat n h =
    dim_same is n (ltb-true _ _ (and_parts _ _ h).0) ∙ ap (dim_of is) (eqb-true _ _ (and_parts _ _ h).1)

-- arguments have the dimensions of their types
pub dims_same : (is : List Info) (ts : List AType) (ns : List ℕ) → are_of is ts ns ≡ true → map (dimension_of is) ns ≡ dims_of is ts
dims_same is [] [] h = refl
dims_same is [] (n ∷ ns) h = absurd cc
dims_same is (t ∷ ts) [] h = absurd cc
dims_same is (t ∷ ts) (n ∷ ns) h =
    let first = dim_of_category is t.cat n (and_parts _ _ h).0 in
    let rest = dims_same is ts ns (and_parts _ _ h).1 in
    rw (first, rest) refl

-- a number within a category that is found is a nonterminal of it
pub of_category : (is : List Info) (cat n : ℕ) (x : Info) → are_infos 0 is ≡ true → slice_get is cat ≡ Some x
    → x.first ≤ n → n < x.first + x.count → is_of is cat n ≡ true
of_category is cat n x h e low high =
    let found = inside 0 n is cat x h e low high in
    let same : n - 0 ≡ n = omega arith in
    let small : n < nonterminals_of is = omega (arith, found.0) in
    rw (lt-ltb n (nonterminals_of is) small, ← same, found.1) (eq-eqb cat cat refl)

-- and if it is not one of the literals, it is listed, with that category's dimension
pub of_listed : (is : List Info) (cat n : ℕ) (x : Info) → are_infos 0 is ≡ true → slice_get is cat ≡ Some x
    → x.first ≤ n → n < x.first + x.count → 2 ≤ n → (is_listed is n ≡ true) × (x.dim ≡ dimension_of is n)
of_listed is cat n x h e low high two =
    let found = inside 0 n is cat x h e low high in
    let small : n < nonterminals_of is = omega (arith, found.0) in
    let there : dim_of is cat ≡ x.dim = rw e refl in
    (rw (le-leb 2 n two, lt-ltb n (nonterminals_of is) small) refl, sym (dim_of_category is cat n (of_category is cat n x h e low high) ∙ there))

-- one more argument that is of its type
pub one_more : (is : List Info) (ts : List AType) (ns : List ℕ) (i : ℕ) (d : AType) → length ts ≡ length ns → i < length ts
    → is_of is (get_or ts i d).cat (get_or ns i 0) ≡ true
    → are_of is (drop i ts) (drop i ns) ≡ are_of is (drop (suc i) ts) (drop (suc i) ns)
one_more is ts ns i d same b e =
    let other : i < length ns = omega (arith, same, b) in
    ap (λ xs. are_of is xs (drop i ns)) (drop-cons ts i d b) ∙ ap (are_of is (get_or ts i d ∷ drop (suc i) ts)) (drop-cons ns i 0 other)
    ∙ rw e refl
