-- Trees that are instances of each other differ in the numbers of their holes alone.
use Rattle.std.specs.Prelude.{◌≡◌, ◌==◌, ◌<◌, ◌≤◌, ◌&&◌, ℕ, ◌+◌, Bool, true, false, nat_le, nat_lt, List, [], ◌∷◌, ◌++◌, map, ⊤, ◌⊎◌}
use Rattle.std.proofs.Common.{refl, sym, ap, ◌∙◌, subst, arith, inl, inr, ⊎_elim, cond}
use Rattle.std.proofs.lemmas.Bool.{and_parts, leb-true, ltb-true, eqb-true, cases_lt}
use Rattle.std.proofs.lemmas.List.{map-append}
use Rattle.gft_core.specs.declared.tree.Tree.{Tree, App, Hole, out-Tree}
use Rattle.gft_core.specs.declared.tree.Tree.TheOpen.{Tree-F}
use Rattle.gft_core.specs.declared.tree.Tree.TheOpen as layer
use Rattle.gft_core.specs.declared.tree.Tree.TheVariants.{outs-Int, outs-Str, outs-Hole}
use Rattle.gft_pmcfg.specs.declared.signature.Abstract.{Abstract}
use Rattle.gft_model.proofs.Layers.{Each, induction}
use Rattle.gft_model.specs.Trees.{filled, holes_of, all_of}
use Rattle.gft_model.specs.Solutions.{are_numbered, IsSolution}
use Rattle.gft_model.proofs.TreeLemmas.{filled-App, filled-Int, filled-Str, filled-Hole, holes_of-App, holes_of-Int, holes_of-Str, holes_of-Hole, same_parts, no_hole}

-- what holds of each number of a list
abbrev pub Every : (ℕ → Type 0) → List ℕ → Type 0
Every P [] = ⊤
Every P (k ∷ ks) = P k × Every P ks

every_left : (P : ℕ → Type 0) (xs ys : List ℕ) → Every P (xs ++ ys) → Every P xs
every_left P [] ys h = tt
every_left P (x ∷ xs) ys h = (h.0, every_left P xs ys h.1)

every_right : (P : ℕ → Type 0) (xs ys : List ℕ) → Every P (xs ++ ys) → Every P ys
every_right P [] ys h = h
every_right P (x ∷ xs) ys h = every_right P xs ys h.1

every_both : (P : ℕ → Type 0) (xs ys : List ℕ) → Every P xs → Every P ys → Every P (xs ++ ys)
every_both P [] ys h k = k
every_both P (x ∷ xs) ys h k = (h.0, every_both P xs ys h.1 k)

every_from : (P Q : ℕ → Type 0) (xs : List ℕ) → ((k : ℕ) → P k → Q k) → Every P xs → Every Q xs
every_from P Q [] f h = tt
every_from P Q (x ∷ xs) f h = (f x h.0, every_from P Q xs f h.1)

every_two : (P Q R : ℕ → Type 0) (xs : List ℕ) → ((k : ℕ) → P k → Q k → R k) → Every P xs → Every Q xs
    → Every R xs
every_two P Q R [] f h g = tt
every_two P Q R (x ∷ xs) f h g = (f x h.0 g.0, every_two P Q R xs f h.1 g.1)

-- the hole keeps its number
abbrev IsKept : (ℕ → Tree) → ℕ → Type 0
IsKept θ k = θ k ≡ Hole k

module _ (θ : ℕ → Tree) where
  abbrev Fixed : Tree → Type 0
  Fixed t = filled θ t ≡ t → Every (IsKept θ) (holes_of t)

  fixed_all : (ts : List Tree) → Each Fixed ts → map (filled θ) ts ≡ ts
      → Every (IsKept θ) (all_of (map holes_of ts))
  fixed_all [] h e = tt
  fixed_all (t ∷ ts) h e =
      let head : filled θ t ≡ t = cc in
      let tail : map (filled θ) ts ≡ ts = cc in
      every_both (IsKept θ) (holes_of t) (all_of (map holes_of ts)) (h.0 head) (fixed_all ts h.1 tail)

  -- where a replacement gives the tree back, it keeps each of its holes
  fixed_holes : (t : Tree) → Fixed t
  fixed_holes = induction Fixed
      (λ f ts h e. subst (Every (IsKept θ)) (sym (holes_of-App f ts)) (fixed_all ts h (same_parts f f (map
      (filled θ) ts) ts (sym (filled-App θ f ts) ∙ e)).1))
      (λ n e. subst (Every (IsKept θ)) (sym (holes_of-Int n)) tt)
      (λ w e. subst (Every (IsKept θ)) (sym (holes_of-Str w)) tt)
      (λ k e. subst (Every (IsKept θ)) (sym (holes_of-Hole k)) (sym (filled-Hole θ k) ∙ e, tt))

  abbrev Unmoved : Tree → Type 0
  Unmoved t = Every (IsKept θ) (holes_of t) → filled θ t ≡ t

  unmoved_all : (ts : List Tree) → Each Unmoved ts → Every (IsKept θ) (all_of (map holes_of ts))
      → map (filled θ) ts ≡ ts
  unmoved_all [] h e = refl
  unmoved_all (t ∷ ts) h e =
      let head = h.0 (every_left (IsKept θ) (holes_of t) (all_of (map holes_of ts)) e) in
      let tail = unmoved_all ts h.1 (every_right (IsKept θ) (holes_of t) (all_of (map holes_of ts)) e) in cc

  -- and the other way round
  unmoved : (t : Tree) → Unmoved t
  unmoved = induction Unmoved
      (λ f ts h e. filled-App θ f ts
      ∙ ap (λ (us : List Tree). App f us) (unmoved_all ts h (subst (Every (IsKept θ))
      (holes_of-App f ts) e)))
      (λ n e. filled-Int θ n)
      (λ w e. filled-Str θ w)
      (λ k e. filled-Hole θ k ∙ (subst (Every (IsKept θ)) (holes_of-Hole k) e).0)

-- one replacement after another
module _ (θ φ : ℕ → Tree) where
  abbrev Twice : Tree → Type 0
  Twice t = filled φ (filled θ t) ≡ filled (λ k. filled φ (θ k)) t

  twice_all : (ts : List Tree) → Each Twice ts
      → map (filled φ) (map (filled θ) ts) ≡ map (filled (λ k. filled φ (θ k))) ts
  twice_all [] h = refl
  twice_all (t ∷ ts) h = let tail = twice_all ts h.1 in let head = h.0 in cc

  filled_twice : (t : Tree) → Twice t
  filled_twice = induction Twice
      (λ f ts h. ap (filled φ) (filled-App θ f ts) ∙ filled-App φ f (map (filled θ) ts)
      ∙ ap (λ (us : List Tree). App f us) (twice_all ts h)
      ∙ sym (filled-App (λ k. filled φ (θ k)) f ts))
      (λ n. ap (filled φ) (filled-Int θ n) ∙ filled-Int φ n
      ∙ sym (filled-Int (λ k. filled φ (θ k)) n))
      (λ w. ap (filled φ) (filled-Str θ w) ∙ filled-Str φ w
      ∙ sym (filled-Str (λ k. filled φ (θ k)) w))
      (λ k. ap (filled φ) (filled-Hole θ k) ∙ sym (filled-Hole (λ j. filled φ (θ j)) k))

-- holes that become holes
module _ (θ : ℕ → Tree) (ρ : ℕ → ℕ) where
  abbrev IsMoved : ℕ → Type 0
  IsMoved k = θ k ≡ Hole (ρ k)

  abbrev Renamed : Tree → Type 0
  Renamed t = Every IsMoved (holes_of t) → holes_of (filled θ t) ≡ map ρ (holes_of t)

  renamed_all : (ts : List Tree) → Each Renamed ts → Every IsMoved (all_of (map holes_of ts))
      → all_of (map holes_of (map (filled θ) ts)) ≡ map ρ (all_of (map holes_of ts))
  renamed_all [] h e = refl
  renamed_all (t ∷ ts) h e =
      let head = h.0 (every_left IsMoved (holes_of t) (all_of (map holes_of ts)) e) in
      let tail = renamed_all ts h.1 (every_right IsMoved (holes_of t) (all_of (map holes_of ts)) e) in
      ap (λ (xs : List ℕ). xs ++ all_of (map holes_of (map (filled θ) ts))) head
      ∙ ap (λ (ys : List ℕ). map ρ (holes_of t) ++ ys) tail
      ∙ sym (map-append ρ (holes_of t) (all_of (map holes_of ts)))

  renamed_holes : (t : Tree) → Renamed t
  renamed_holes = induction Renamed
      (λ f ts h e. ap holes_of (filled-App θ f ts) ∙ holes_of-App f (map (filled θ) ts)
      ∙ renamed_all ts h (subst (Every IsMoved) (holes_of-App f ts) e)
      ∙ ap (map ρ) (sym (holes_of-App f ts)))
      (λ n e. ap holes_of (filled-Int θ n) ∙ holes_of-Int n ∙ ap (map ρ) (sym (holes_of-Int n)))
      (λ w e. ap holes_of (filled-Str θ w) ∙ holes_of-Str w ∙ ap (map ρ) (sym (holes_of-Str w)))
      (λ k e. ap holes_of (filled-Hole θ k ∙ (subst (Every IsMoved) (holes_of-Hole k) e).0)
      ∙ holes_of-Hole (ρ k) ∙ ap (map ρ) (sym (holes_of-Hole k)))

-- the number of a hole; 0 for other trees
abbrev number_in : Tree-F Tree → ℕ
number_in (layer.App f ts) = 0
number_in (layer.Int n) = 0
number_in (layer.Str w) = 0
number_in (layer.Hole k) = k

abbrev hole_number : Tree → ℕ
hole_number t = number_in (out-Tree t)

-- a tree of which a hole is an instance is a hole
only_hole : (θ : ℕ → Tree) (t : Tree) → (k : ℕ) → filled θ t ≡ Hole k → t ≡ Hole (hole_number t)
only_hole θ = induction (λ t. (k : ℕ) → filled θ t ≡ Hole k → t ≡ Hole (hole_number t))
    (λ f ts h k e. absurd (no_hole f _ k (sym (filled-App θ f ts) ∙ e)))
    (λ n k e. let layers : ◌≡◌ {A = Tree-F Tree} (layer.Int n) (layer.Hole k) = sym (outs-Int n)
    ∙ ap out-Tree (sym (filled-Int θ n) ∙ e) ∙ outs-Hole k in cc)
    (λ w k e. let layers : ◌≡◌ {A = Tree-F Tree} (layer.Str w) (layer.Hole k) = sym (outs-Str w)
    ∙ ap out-Tree (sym (filled-Str θ w) ∙ e) ∙ outs-Hole k in cc)
    (λ j k e. ap (λ (l : Tree-F Tree). Hole (number_in l)) (sym (outs-Hole j)))

hole_number-Hole : (k : ℕ) → hole_number (Hole k) ≡ k
hole_number-Hole k = ap number_in (outs-Hole k)

-- the first of numbered holes is among those before it, or the next one
numbered_head : (next k : ℕ) (ks : List ℕ) → are_numbered next (k ∷ ks) ≡ true
    → ((1 ≤ k) × (k < next) × (are_numbered next ks ≡ true)) ⊎ ((k ≡ next) × (are_numbered
    (next + 1) ks ≡ true))
numbered_head next k ks h = by_test (nat_le 1 k && nat_lt k next) refl h where
  by_test : (c : Bool) → (nat_le 1 k && nat_lt k next) ≡ c
      → cond c (are_numbered next ks) (k == next && are_numbered (next + 1) ks) ≡ true
      → ((1 ≤ k) × (k < next) × (are_numbered next ks ≡ true)) ⊎ ((k ≡ next) × (are_numbered
      (next + 1) ks ≡ true))
  by_test true e h = let parts =
      and_parts (nat_le 1 k) (nat_lt k next) e in inl (leb-true 1 k parts.0, ltb-true k next parts.1, h)
  by_test false e h = let parts =
      and_parts (k == next) (are_numbered (next + 1) ks) h in inr (eqb-true k next parts.0, parts.1)

-- what holds below a number and at it holds below the one after it
one_more : (f : ℕ → ℕ) (next : ℕ) → ((j : ℕ) → 1 ≤ j → j < next → f j ≡ j) → f next ≡ next → (j : ℕ)
    → 1 ≤ j → j < next + 1 → f j ≡ j
one_more f next below at j low high =
    ⊎_elim {C = f j ≡ j} (λ b. below j low b) (λ b. let same : j ≡ next =
    omega arith in subst (λ i. f i ≡ i) (sym same) at) (cases_lt j next)

-- two numberings from 1 of which each renames the other are one
same_numbers : (ρ σ : ℕ → ℕ) (next : ℕ) (ks : List ℕ) → ((j : ℕ) → 1 ≤ j → j < next → ρ j ≡ j) → ((j : ℕ)
    → 1 ≤ j → j < next → σ j ≡ j)
    → Every (λ k. σ (ρ k) ≡ k) ks → are_numbered next ks ≡ true → are_numbered next (map ρ ks) ≡ true
    → Every (λ k. ρ k ≡ k) ks
same_numbers ρ σ next [] below back h a b = tt
same_numbers ρ σ next (k ∷ ks) below back h a b =
    ⊎_elim {C = Every (λ k. ρ k ≡ k) (k ∷ ks)}
    (λ old. ⊎_elim {C = Every (λ k. ρ k ≡ k) (k ∷ ks)}
    (λ its. (below k old.0 old.1, same_numbers ρ σ next ks below back h.1 old.2 its.2))
    (λ its. absurd (omega (arith, its.0, below k old.0 old.1, old.1)))
    (numbered_head next (ρ k) (map ρ ks) b))
    (λ new. ⊎_elim {C = Every (λ k. ρ k ≡ k) (k ∷ ks)}
    (λ its. absurd (omega (arith, new.0, its.1, back (ρ k) its.0 its.1, h.0)))
    (λ its.
    let ρ_next : ρ next ≡ next = subst (λ i. ρ i ≡ next) new.0 its.0 in
    let σ_next : σ next ≡ next = ap σ (sym its.0) ∙ h.0 ∙ new.0 in (
      its.0 ∙ sym new.0,
      same_numbers ρ σ (next + 1) ks (one_more ρ next below ρ_next)
          (one_more σ next back σ_next) h.1 new.1 its.1,
    ))
    (numbered_head next (ρ k) (map ρ ks) b))
    (numbered_head next k ks a)

-- two solutions of one pattern are equal
pub unique : (a : Abstract) (pattern s u : Tree) → IsSolution a pattern s → IsSolution a pattern u → s ≡ u
unique a pattern s u x y =
    let there = x.general u y.instance y.typed in
    let back = y.general s x.instance x.typed in
    let θ : ℕ → Tree = there.0 in
    let φ : ℕ → Tree = back.0 in
    let ρ : ℕ → ℕ = λ k. hole_number (θ k) in
    let σ : ℕ → ℕ = λ k. hole_number (φ k) in
    let round : filled (λ k. filled φ (θ k)) s ≡ s = sym (filled_twice θ φ s)
    ∙ ap (filled φ) (sym there.1) ∙ sym back.1 in
    let kept : Every (IsKept (λ k. filled φ (θ k))) (holes_of s) =
    fixed_holes (λ k. filled φ (θ k)) s round in
    let moved : Every (IsMoved θ ρ) (holes_of s) =
    every_from (IsKept (λ k. filled φ (θ k))) (IsMoved θ ρ) (holes_of s) (λ k e. only_hole φ
    (θ k) k e) kept in
    let returns : Every (λ k. σ (ρ k) ≡ k) (holes_of s)
    = every_from (IsKept (λ k. filled φ (θ k))) (λ k. σ (ρ k) ≡ k) (holes_of s)
    (λ k e. ap hole_number (sym (filled-Hole φ (ρ k)) ∙ ap (filled φ) (sym (only_hole φ
    (θ k) k e)) ∙ e) ∙ hole_number-Hole k) kept in
    let holes : holes_of u ≡ map ρ (holes_of s) = ap holes_of there.1 ∙ renamed_holes θ ρ s moved in
    let same = same_numbers ρ σ 1 (holes_of s) (λ j low high. absurd (omega arith)) (λ j low high. absurd
    (omega arith)) returns x.numbered
    (subst (λ (ks : List ℕ). are_numbered 1 ks ≡ true) holes y.numbered) in
    let still : Every (IsKept θ) (holes_of s) =
    every_two (IsMoved θ ρ) (λ k. ρ k ≡ k) (IsKept θ) (holes_of s) (λ k m e. m ∙ ap Hole e) moved same in
    sym (there.1 ∙ unmoved θ s still)
