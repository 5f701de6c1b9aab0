-- Worked examples of dependent types of trees, of admitted holes, and of flaws.
use Rattle.std.specs.Prelude.{◌≡◌, ℕ, zero, suc, List, [], ◌∷◌, length, codes, Contains, Some, slice_index_or, ◌<◌, true, false}
use Rattle.std.specs.Str.{bytes_eq}
use Rattle.std.specs.List.Sorted.{IsPermutation}
use Rattle.std.proofs.Common.{swap, refl, sym, ap, ◌∙◌, subst, arith, rules}
use Rattle.std.proofs.lemmas.List.Sorted.{length_permutation, IsPermutation-keeps}
use Rattle.gft_core.specs.declared.tree.Tree.{Tree, App, Int, Hole}
use Rattle.gft_core.specs.declared.tree.Tree.TheVariants.{outs-App, outs-Hole, outs-Int}
use Rattle.gft_pmcfg.specs.declared.signature.AType.{AType}
use Rattle.gft_pmcfg.specs.declared.signature.Cat.{Cat}
use Rattle.gft_model.specs.Trees.{IsInstance, filled}
use Rattle.gft_model.specs.Skeleton as skeleton
use Rattle.gft_model.specs.Skeleton.{HoleCategories, HasSkeletonType}
use Rattle.gft_model.specs.Typing.{HoleTypes, HasType, HaveTypes, IsType, IsAdmitted, AreInOrder, hole, integer, text, application, none, more, empty, later, type_at, int_type}
use Rattle.gft_model.specs.Flaws as flaws
use Rattle.gft_model.specs.Flaws.{Flaw, arity, index_type, HasFlaw, HaveFlaw, HasTypeFlaw}
use Rattle.gft_model.proofs.Home.{home, same, fan, mk, cmd, kind}
use Rattle.gft_model.proofs.SolutionExamples.{same_of, kinds, hole_typed, equal_kinds}
use Rattle.gft_model.proofs.TreeLemmas.{filled-App, filled-Hole, same_number, same_parts}
use Rattle.gft_model.proofs.TypingLemmas.{first_type}

abbrev a_fan : Tree
a_fan = App (codes "fan") []

-- `Tag x`
abbrev tag_of : Tree → AType
tag_of x = record { cat = 4; args = x ∷ [] }

abbrev tag_category : Cat
tag_category = record { name = codes "Tag"; context = kind ∷ [] }

-- `fan` is a kind, and `Same fan (mk fan)` a command
fan_typed : {T : HoleTypes} → HasType home T a_fan kind
fan_typed = application {f = fan} (2, omega arith, refl) (outs-App _ _) none

closed_typed : HasType home [] (same_of a_fan a_fan) cmd
closed_typed =
    let marked = application {f = mk} (3, omega arith, refl) (outs-App _ _) (more fan_typed none) in
    application {f = same} (0, omega arith, refl) (outs-App _ _) (more fan_typed (more marked none))

-- `Same ?1 (mk ?2)` has a skeleton type, and no type whatever its holes are
abbrev two_kinds : HoleCategories
two_kinds = (1, 3) ∷ (2, 3) ∷ []

marked : HasSkeletonType home two_kinds (App (codes "mk") (Hole 2 ∷ [])) 4
marked = skeleton.HasSkeletonType.application {f = mk} (3, omega arith, refl) (outs-App _ _)
    (skeleton.more (skeleton.hole (outs-Hole 2) (omega arith) (1, omega arith, refl)) skeleton.none)

skeleton_typed : HasSkeletonType home two_kinds (same_of (Hole 1) (Hole 2)) 2
skeleton_typed = skeleton.HasSkeletonType.application {f = same} (0, omega arith, refl) (outs-App _ _)
    (skeleton.more (skeleton.hole (outs-Hole 1) (omega arith) (0, omega arith, refl))
    (skeleton.more marked skeleton.none))

two_kinds_are_not_typed : (T : HoleTypes) (type : AType) → ¬ HasType home T (same_of (Hole 1) (Hole 2)) type
two_kinds_are_not_typed T type d =
    let one_is_two = same_number 1 2 (equal_kinds T type (Hole 1) (Hole 2) d) in absurd (omega (arith, one_is_two))

-- `?2 : Tag ?1` over `?1 : Kind`
kind_is_type : IsType home [] kind
kind_is_type = record { category = record { name = codes "Kind"; context = [] }; numbered = refl; indices = none }

tag_is_type : IsType home kinds (tag_of (Hole 1))
tag_is_type = record { category = tag_category; numbered = refl; indices = more hole_typed none }

tags_admitted : IsAdmitted home ((2, tag_of (Hole 1)) ∷ kinds)
tags_admitted = (
  (2, tag_of (Hole 1)) ∷ kinds,
  record { moves = []; below = search rules; is = refl },
  later (later empty (λ h. absurd (omega (arith, h.1))) kind_is_type) not_one tag_is_type,
) where
  not_one : ¬ Contains {X = ℕ} (1 ∷ []) 2
  not_one (zero, b, e) = absurd (omega (arith, e))
  not_one (suc k, b, e) = absurd (omega (arith, b))

-- one thing has one order
one_order : {A : Type 0} (x : A) (ys : List A) → IsPermutation (x ∷ []) ys → ys ≡ x ∷ []
one_order {A} x ys p = IsPermutation-keeps (x ∷ []) (λ l. l ≡ x ∷ []) refl (λ l i j a b e. kept l e i j a b) ys p where
  kept : (l : List A) → l ≡ x ∷ [] → (i j : ℕ) → i < length l → j < length l → swap l i j ≡ x ∷ []
  kept l e zero zero a b = ap (λ (zs : List A). swap zs 0 0) e
  kept l e zero (suc j) a b = absurd (omega (arith, b, ap length e))
  kept l e (suc i) j a b = absurd (omega (arith, a, ap length e))

-- the type of the first hole
abbrev type_in : HoleTypes → AType
type_in [] = kind
type_in (h ∷ hs) = h.1

-- a hole has no type where no hole has
not_variable : {type : AType} → ¬ HasType home [] (Hole 1) type
not_variable (hole h b m) = absurd (omega (arith, m.1))
not_variable (integer h b) = let layer = outs-Hole 1 in cc
not_variable (text h b) = let layer = outs-Hole 1 in cc
not_variable (application m h ds) = let layer = outs-Hole 1 in cc

-- a hole whose type names itself is not admitted
circular_is_not_admitted : ¬ IsAdmitted home ((1, tag_of (Hole 1)) ∷ [])
circular_is_not_admitted (ordered, p, o) = in_order o p where
  alone : {k : ℕ} {type : AType} → ◌≡◌ {A = HoleTypes} ((1, tag_of (Hole 1)) ∷ []) ((k, type) ∷ [])
      → ¬ IsType home [] type
  alone {type} e d =
      let same : tag_of (Hole 1) ≡ type = ap (λ (T : HoleTypes). type_in T) e in
      let here = subst (IsType home []) (sym same) d in
      let found : Some tag_category ≡ Some here.category = here.numbered in
      let context : here.category.context ≡ kind ∷ [] = cc in
      not_variable (first_type (subst (λ (types : List AType). HaveTypes home [] [] types (Hole 1 ∷ [])) context here.indices))

  in_order : {ordered : HoleTypes} → AreInOrder home ordered → IsPermutation ordered ((1, tag_of (Hole 1)) ∷ []) → ⊥
  in_order empty p = let count = length_permutation _ _ p in absurd (omega (arith, count))
  in_order (later empty n d) p = alone (one_order _ _ p) d
  in_order (later (later o m c) n d) p = let count = length_permutation _ _ p in absurd (omega (arith, count))

-- `Tag` lacks an index, `Tag 7` has one of another type, and of `mk 7 7` the first argument counts
lacks_index : HasTypeFlaw home [] (record { cat = 4; args = [] }) arity
lacks_index = record { category = tag_category; numbered = refl; indices = flaws.too_few }

seven_is_no_kind : HaveFlaw home [] [] (kind ∷ []) (Int 7 ∷ []) index_type
seven_is_no_kind = flaws.other_type (integer (outs-Int 7) (omega arith)) (λ e. absurd (omega (arith, ap (λ (t : AType). t.cat) e)))

other_index : HasTypeFlaw home [] (tag_of (Int 7)) index_type
other_index = record { category = tag_category; numbered = refl; indices = seven_is_no_kind }

first_counts : HasFlaw home [] (App (codes "mk") (Int 7 ∷ Int 7 ∷ [])) index_type
first_counts =
    let other : ¬ (int_type ≡ kind) = λ e. absurd (omega (arith, ap (λ (t : AType). t.cat) e)) in
    flaws.application {f = mk} (3, omega arith, refl) (outs-App _ _)
    (flaws.other_type (integer (outs-Int 7) (omega arith)) other)

-- `?1` is a kind, and nothing else
only_kind : {found : AType} → HasType home kinds (Hole 1) found → found ≡ kind
only_kind (hole h b (zero, l, m)) = ap (λ (x : ℕ × AType). x.1) (sym m)
only_kind (hole h b (suc k, l, m)) = absurd (omega (arith, l))
only_kind (integer h b) = let layer = outs-Hole 1 in cc
only_kind (text h b) = let layer = outs-Hole 1 in cc
only_kind (application m h ds) = let layer = outs-Hole 1 in cc

-- `Tag ?1` has no flaw
no_flaw : (flaw : Flaw) → ¬ HasTypeFlaw home kinds (tag_of (Hole 1)) flaw
no_flaw flaw d =
    let found : Some tag_category ≡ Some d.category = d.numbered in
    let same : d.category.context ≡ kind ∷ [] = cc in
    no_flaws d.indices same where
      nothing_left : {before : List Tree} {types : List AType} {flaw : Flaw} → HaveFlaw home kinds before types [] flaw → types ≡ [] → ⊥
      nothing_left flaws.too_few e = cc

      no_flaws : {types : List AType} {flaw : Flaw} → HaveFlaw home kinds [] types (Hole 1 ∷ []) flaw → types ≡ kind ∷ [] → ⊥
      no_flaws (flaws.inside (flaws.application m h d)) e = let layer = outs-Hole 1 in cc
      no_flaws (flaws.other_type {type} {found} d n) e =
          let one : type ≡ kind = cc in n (only_kind d ∙ ap (type_at []) (sym one))
      no_flaws (flaws.later {types} d ds) e = let none_left : types ≡ [] = cc in nothing_left ds none_left
      no_flaws (flaws.past d ds) e = cc
      no_flaws (flaws.too_many d) e = cc

-- `Same fan (mk fan)` is an instance of `Same ?1 (mk ?1)`, and `Same fan (mk light)` is none
fan_is_instance : IsInstance (same_of (Hole 1) (Hole 1)) (same_of a_fan a_fan)
fan_is_instance = ((λ _. a_fan), simp (filled-App, filled-Hole))

abbrev a_light : Tree
a_light = App (codes "light") []

light_is_no_instance : ¬ IsInstance (same_of (Hole 1) (Hole 1)) (same_of a_fan a_light)
light_is_no_instance (θ, e) =
    let shape : filled θ (same_of (Hole 1) (Hole 1)) ≡ same_of (θ 1) (θ 1) = simp (filled-App, filled-Hole) in
    let parts = same_parts _ _ _ _ (e ∙ shape) in
    let first : a_fan ≡ θ 1 = ap (λ (ts : List Tree). slice_index_or ts 0 a_fan) parts.1 in
    let second = same_parts _ _ _ _ (ap (λ (ts : List Tree). slice_index_or ts 1 a_fan) parts.1) in
    let inner : a_light ≡ θ 1 = ap (λ (ts : List Tree). slice_index_or ts 0 a_fan) second.1 in
    let names = same_parts _ _ _ _ (first ∙ sym inner) in
    let wrong : true ≡ false = ap (λ (n : List ℕ). bytes_eq n (codes "fan")) names.0 in cc
