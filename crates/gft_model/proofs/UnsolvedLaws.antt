-- A tree without a solution has one refusal.
use Rattle.std.proofs.Common.{◌≡◌, ◌≢◌, refl, sym, ap, ◌∙◌, subst, ℕ, suc, List, [], ◌∷◌, ◌++◌, arith, ⊎_elim}
use Rattle.std.proofs.Math.Nat.{eq-or-lt_of_le}
use Rattle.std.proofs.lemmas.Bool.{cases_lt}
use Rattle.std.specs.Prelude.{slice_get, Option, Some, None}
use Rattle.std.specs.declared.cmp.Ordering.{Ordering}
use Rattle.std.specs.declared.cmp.Ordering.TheVariants.{Less, Equal, Greater}
use Rattle.std.specs.Cmp.Lexicographic.{slice_cmp, nat_list_cmp_total}
use Rattle.std.specs.Ordering.{nat_cmp, is_eq, ordering_reverse}
use Rattle.std.proofs.lemmas.Slice.Eq.{bytes_eq-Decides}
use Rattle.std.proofs.lemmas.Map.Text.{is_eq-slice_cmp}
use Rattle.gft_core.specs.declared.tree.Tree.{Tree}
use Rattle.gft_core.specs.declared.tree.Tree.TheOpen as layer
use Rattle.gft_core.specs.declared.tree.Tree.TheOpen.{Tree-F}
use Rattle.gft_pmcfg.specs.declared.signature.AType.{AType}
use Rattle.gft_pmcfg.specs.declared.signature.Abstract.{Abstract}
use Rattle.gft_pmcfg.specs.declared.signature.Fun.{Fun}
use Rattle.gft_rules.specs.declared.refusal.Refusal.{Refusal}
use Rattle.gft_rules.specs.declared.rule.Rule.TheVariants.{UnknownFun, WrongArity, WrongCategory, IllTyped}
use Rattle.gft_model.specs.Refusals.{placeless}
use Rattle.gft_model.specs.States.{category_name}
use Rattle.gft_model.specs.Trees.{subtree_at, text_of}
use Rattle.gft_model.specs.Unsolved.{layer_at, function_named, MustHave, argument, HasCategory, application, integer, text, hole, IsWrongAt, unknown_fun, wrong_arity, wrong_category, ComesFirst, IsSooner, within, left, IsReason, wrong, ill_typed}

-- POSITIONS

-- a list with one number more, at the end
pub not_nil : (q : List ℕ) (j : ℕ) → [] ≡ q ++ j ∷ [] → ⊥
not_nil [] j e = cc
not_nil (k ∷ q) j e = cc

pub last_once : (p q : List ℕ) (i j : ℕ) → p ++ i ∷ [] ≡ q ++ j ∷ [] → (p ≡ q) × (i ≡ j)
last_once [] [] i j e = (refl, cc)
last_once [] (k ∷ q) i j e = absurd (not_nil q j cc)
last_once (k ∷ p) [] i j e = absurd (not_nil p i cc)
last_once (k ∷ p) (l ∷ q) i j e = let t = last_once p q i j cc in let h : k ≡ l = cc in (cc, t.1)

-- of two positions neither of which is before the other there is one
not_after_once : (p q : List ℕ) → slice_cmp nat_cmp p q ≢ Less → slice_cmp nat_cmp q p ≢ Less → p ≡ q
not_after_once p q x y = by_order (slice_cmp nat_cmp p q) refl where
  by_order : (o : Ordering) → slice_cmp nat_cmp p q ≡ o → p ≡ q
  by_order Less e = absurd (x e)
  by_order Equal e = (bytes_eq-Decides p q).0 (sym (is_eq-slice_cmp p q) ∙ ap is_eq e)
  by_order Greater e = absurd (y (nat_list_cmp_total.antisymm q p ∙ ap ordering_reverse e))

not_before_itself : (p q : List ℕ) → p ≡ q → slice_cmp nat_cmp p q ≡ Less → ⊥
not_before_itself p q e l =
    let here = subst (λ x. slice_cmp nat_cmp p x ≡ Less) (sym e) l in let h = nat_list_cmp_total.antisymm p p in cc

comes_once : (p q : List ℕ) (k m : ℕ) → ComesFirst p k q m → ComesFirst q m p k → (p ≡ q) × (k ≡ m)
comes_once p q k m x y = ⊎_elim {C = (p ≡ q) × (k ≡ m)}
    (λ l. ⊎_elim {C = (p ≡ q) × (k ≡ m)} (λ r. let h = nat_list_cmp_total.antisymm p q in cc)
    (λ r. absurd (not_before_itself p q (sym r.0) l)) y)
    (λ l. ⊎_elim {C = (p ≡ q) × (k ≡ m)} (λ r. absurd (not_before_itself q p (sym l.0) r))
    (λ r. (l.0, omega (arith, l.1, r.1))) y) x

-- in post-order one of two positions is before the other, or they are the same
data Compared (p q : List ℕ) : Type 0 where
  same : p ≡ q → Compared p q
  first : IsSooner p q → Compared p q
  later : IsSooner q p → Compared p q

compared : (p q : List ℕ) → Compared p q
compared [] [] = same refl
compared [] (j ∷ q) = later (within [] j q)
compared (i ∷ p) [] = first (within [] i p)
compared (i ∷ p) (j ∷ q) = ⊎_elim {C = Compared (i ∷ p) (j ∷ q)} (λ l. first (left [] p q i j l))
    (λ g. ⊎_elim {C = Compared (i ∷ p) (j ∷ q)} (λ e. under (sym e) (compared p q)) (λ l. later (left [] q p j i l))
    (eq-or-lt_of_le g)) (cases_lt i j) where
      deeper : (x y : List ℕ) → IsSooner x y → IsSooner (i ∷ x) (i ∷ y)
      deeper x y (within v k w) = within (i ∷ v) k w
      deeper x y (left v w z k l h) = left (i ∷ v) w z k l h

      under : i ≡ j → Compared p q → Compared (i ∷ p) (j ∷ q)
      under e (same f) = let whole : i ∷ p ≡ j ∷ q = cc in same whole
      under e (first b) = subst (λ k. Compared (i ∷ p) (k ∷ q)) e (first (deeper p q b))
      under e (later b) = subst (λ k. Compared (i ∷ p) (k ∷ q)) e (later (deeper q p b))

-- WHAT STANDS AT A POSITION

abbrev category_in : Option AType → ℕ
category_in None = 0
category_in (Some type) = type.cat

module _ (a : Abstract) (t : Tree) where
  pub applies_once : (p : List ℕ) {f g : List ℕ} {ts us : List Tree} → layer_at t p ≡ Some (layer.App f ts)
      → layer_at t p ≡ Some (layer.App g us) → (f ≡ g) × (ts ≡ us)
  applies_once p x y = (cc, cc)

  function_once : (p : List ℕ) {f g : List ℕ} {ts us : List Tree} {h k : Fun} → layer_at t p ≡ Some (layer.App f ts)
      → layer_at t p ≡ Some (layer.App g us) → function_named a.funs f ≡ Some h → function_named a.funs g ≡ Some k → h ≡ k
  function_once p x y e d = let same = (applies_once p x y).0 in let b = ap (function_named a.funs) same in cc

  hole_once : (p : List ℕ) {j k : ℕ} → layer_at t p ≡ Some (layer.Hole j) → layer_at t p ≡ Some (layer.Hole k) → j ≡ k
  hole_once p x y = cc

  pub must_once : {p : List ℕ} {c d : ℕ} → MustHave a t p c → MustHave a t p d → c ≡ d
  must_once (argument q i {name} {f} {ts} {type} e s named there) (argument r j {type = other} g z called here) =
      let places = last_once q r (suc i) (suc j) (sym e ∙ g) in
      let functions = function_once r (subst (λ x. layer_at t x ≡ Some (layer.App name ts)) places.0 s) z named called in
      let numbers : i ≡ j = omega (arith, places.1) in
      ap category_in (sym there ∙ ap (λ k. slice_get k.args i) functions ∙ ap (slice_get _) numbers ∙ here)

  pub has_once : {p : List ℕ} {c d : ℕ} → HasCategory a t p c → HasCategory a t p d → c ≡ d
  has_once {p} (application s named) (application z called) = ap (λ f. f.result.cat) (function_once p s z named called)
  has_once (application s named) (integer e) = cc
  has_once (application s named) (text e) = cc
  has_once (application s named) (hole x y f m) = cc
  has_once (integer e) (application s named) = cc
  has_once (integer e) (integer f) = refl
  has_once (integer e) (text f) = cc
  has_once (integer e) (hole x y f m) = cc
  has_once (text e) (application s named) = cc
  has_once (text e) (integer f) = cc
  has_once (text e) (text f) = refl
  has_once (text e) (hole x y f m) = cc
  has_once (hole x y f m) (application s named) = cc
  has_once (hole x y f m) (integer e) = cc
  has_once (hole x y f m) (text e) = cc
  has_once {p} {c = c} (hole {q} x y f m) (hole {q = r} z w g n) =
      let k = hole_once p x z in
      let places : q ≡ r = not_after_once q r (g q (y ∙ ap (λ i. Some (layer.Hole i)) k))
      (f r (w ∙ ap (λ i. Some (layer.Hole i)) (sym k))) in
      must_once (subst (λ v. MustHave a t v c) places m) n

  wrong_once : {p : List ℕ} {k : ℕ} {r s : Refusal} → IsWrongAt a t p k r → IsWrongAt a t p k s → r ≡ s
  wrong_once {p} (unknown_fun x e) (unknown_fun y f) = ap (λ n. placeless UnknownFun (n ∷ [])) (applies_once p x y).0
  wrong_once {p} (wrong_arity x e n) (wrong_arity y f m) = ap (λ n. placeless WrongArity (n ∷ [])) (applies_once p x y).0
  wrong_once (wrong_category {wanted} {found} m h n) (wrong_category {wanted = c} {found = d} o i l) =
      ap (λ k. placeless WrongCategory (category_name a k ∷ category_name a found ∷ [])) (must_once m o)
      ∙ ap (λ k. placeless WrongCategory (category_name a c ∷ category_name a k ∷ [])) (has_once h i)

  pub reason_once : {r s : Refusal} → IsReason a t r → IsReason a t s → r ≡ s
  reason_once {s = s} (wrong {p} {kind} w f) (wrong {p = q} {kind = k} v g) =
      let places = comes_once p q kind k (f q k s v) (g p kind _ w) in
      wrong_once w (subst (λ x. IsWrongAt a t p x s) (sym places.1) (subst (λ x. IsWrongAt a t x k s) (sym places.0) v))
  reason_once (wrong w f) (ill_typed none e n b) = absurd (none _ _ _ w)
  reason_once (ill_typed none e n b) (wrong w f) = absurd (none _ _ _ w)
  reason_once (ill_typed {p} {u} none e n b) (ill_typed {p = q} {u = v} never f m c) = of_compared (compared p q) where
    of_compared : Compared p q → placeless IllTyped (text_of u ∷ []) ≡ placeless IllTyped (text_of v ∷ [])
    of_compared (same h) = let trees : u ≡ v = let x = ap (subtree_at t) h in cc in
        ap (λ x. placeless IllTyped (text_of x ∷ [])) trees
    of_compared (first h) = absurd (n (c p u h e))
    of_compared (later h) = absurd (m (b q v h f))
