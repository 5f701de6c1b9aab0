-- Bindings, with one more at the end.
use Rattle.std.proofs.Common.{◌≡◌, ◌≢◌, ℕ, suc, ◌<◌, ◌≤◌, length, Bool, true, false, cond, nat_eq, eq-eqb, ne_eqb, List, [], ◌∷◌, ◌++◌, Option, None, Some, refl, sym, ap, subst, ◌∙◌, ⊎_elim, ◌⊎◌, inl, inr, arith}
use Rattle.std.proofs.lemmas.Bool.Decides.{eqb_tells}
use Rattle.std.specs.Map.{lookup}
use Rattle.gft_core.specs.declared.tree.Tree.{Tree}
use Rattle.gft_core.specs.declared.tree.Tree.TheVariants.{Hole}
use Rattle.gft_unify.specs.Instances.{inst, hole_count, StandsIn}
use Rattle.gft_unify.specs.Bindings.{only, with_binding, solved_from, solved, Respects, Avoids, LinksOn, bound_after, IsLater, IsEnd, IsAcyclic}
use Rattle.gft_unify.proofs.Equations.{inst-Hole, hole_count-other}
use Rattle.gft_unify.proofs.TreeLemmas.{inst-inst, inst-equal, inst-same, hole_count-inst}

cond_none : {A : Type 0} (b : Bool) (x : A) (r : Option A) → cond b (Some x) r ≡ None → (b ≡ false) × (r ≡ None)
cond_none true x r e = absurd cc
cond_none false x r e = (refl, e)

-- a further binding leaves what another hole is bound to
pub lookup-push_other : (bs : List (ℕ × Tree)) (k : ℕ) (t : Tree) (j : ℕ) → j ≢ k → lookup (nat_eq j) (bs ++ (k, t) ∷ []) ≡ lookup (nat_eq j) bs
lookup-push_other [] k t j ne = ap (λ b. cond b (Some t) None) (ne_eqb j k ne)
lookup-push_other (c ∷ bs) k t j ne = ap (λ r. cond (nat_eq j c.0) (Some c.1) r) (lookup-push_other bs k t j ne)

-- a hole that is loose after it was loose before it, and is not the one that is bound
pub lookup-push_none : (bs : List (ℕ × Tree)) (k : ℕ) (t : Tree) (j : ℕ) → lookup (nat_eq j) (bs ++ (k, t) ∷ []) ≡ None → (lookup (nat_eq j) bs ≡ None) × (j ≢ k)
lookup-push_none [] k t j e =
    (refl, λ same. let p = (cond_none (nat_eq j k) t None e).0 in let q = eq-eqb j k same in absurd cc)
lookup-push_none (c ∷ bs) k t j e =
    let parts = cond_none (nat_eq j c.0) c.1 (lookup (nat_eq j) (bs ++ (k, t) ∷ [])) e in
    let rest = lookup-push_none bs k t j parts.1 in
    (ap (λ b. cond b (Some c.1) (lookup (nat_eq j) bs)) parts.0 ∙ rest.0, rest.1)

Avoids-push : (bs : List (ℕ × Tree)) (i k : ℕ) (t : Tree) → Avoids i bs → t ≢ Hole i → Avoids i (bs ++ (k, t) ∷ [])
Avoids-push [] i k t a ne = (ne, tt)
Avoids-push (c ∷ bs) i k t a ne = (a.0, Avoids-push bs i k t a.1 ne)

lookup-cons_none : (c : ℕ × Tree) (bs : List (ℕ × Tree)) (j : ℕ) → lookup (nat_eq j) (c ∷ bs) ≡ None → (j ≢ c.0) × (lookup (nat_eq j) bs ≡ None)
lookup-cons_none c bs j e =
    let parts = cond_none (nat_eq j c.0) c.1 (lookup (nat_eq j) bs) e in
    (λ same. let q = eq-eqb j c.0 same in let p = parts.0 in absurd cc, parts.1)

-- a hole is bound to another tree that is no bound hole
pub LinksOn-push : (bs : List (ℕ × Tree)) (k : ℕ) (t : Tree) → LinksOn bs → IsEnd bs t → t ≢ Hole k → LinksOn (bs ++ (k, t) ∷ [])
LinksOn-push [] k t l end ne = ((ne, tt), tt)
LinksOn-push (c ∷ bs) k t l end ne =
    let apart : t ≢ Hole c.0 = λ e. (lookup-cons_none c bs c.0 (end c.0 e)).0 refl in
    (Avoids-push (c ∷ bs) c.0 k t l.0 apart, LinksOn-push bs k t l.1 (λ j e. (lookup-cons_none c bs j (end j e)).1) ne)

-- what avoids a hole binds none to it
Avoids-lookup : (bs : List (ℕ × Tree)) (i k : ℕ) (t : Tree) → Avoids i bs → lookup (nat_eq k) bs ≡ Some t → t ≢ Hole i
Avoids-lookup [] i k t a e = absurd cc
Avoids-lookup (c ∷ bs) i k t a e = by (nat_eq k c.0) refl (Avoids-lookup bs i k t a.1)
  where
    by : (b : Bool) → nat_eq k c.0 ≡ b → (lookup (nat_eq k) bs ≡ Some t → t ≢ Hole i) → t ≢ Hole i
    by true p rest =
        let same : Some c.1 ≡ Some t = sym (ap (λ b. cond b (Some c.1) (lookup (nat_eq k) bs)) p) ∙ e in
        let tree : c.1 ≡ t = cc in subst (λ u. u ≢ Hole i) tree a.0
    by false p rest = rest (sym (ap (λ b. cond b (Some c.1) (lookup (nat_eq k) bs)) p) ∙ e)

-- a hole that is bound to a hole is bound to one that was bound later, or is loose
pub LinksOn-lookup : (bs : List (ℕ × Tree)) (k : ℕ) (t : Tree) → LinksOn bs → lookup (nat_eq k) bs ≡ Some t → IsLater bs k t
LinksOn-lookup [] k t l e j is = absurd cc
LinksOn-lookup (c ∷ bs) k t l e j is = by (nat_eq k c.0) refl (LinksOn-lookup bs k t l.1)
  where
    apart : j ≢ c.0
    apart same = Avoids-lookup (c ∷ bs) c.0 k t l.0 e (is ∙ ap Hole same)

    later : bound_after (c ∷ bs) j ≡ suc (bound_after bs j)
    later = ap (λ b. cond b 0 (suc (bound_after bs j))) (ne_eqb j c.0 apart)

    by : (b : Bool) → nat_eq k c.0 ≡ b → (lookup (nat_eq k) bs ≡ Some t → IsLater bs k t) → bound_after (c ∷ bs) k < bound_after (c ∷ bs) j
    by true p rest =
        let first : bound_after (c ∷ bs) k ≡ 0 = ap (λ b. cond b 0 (suc (bound_after bs k))) p in omega (arith, later)
    by false p rest =
        let next : bound_after (c ∷ bs) k ≡ suc (bound_after bs k) = ap (λ b. cond b 0 (suc (bound_after bs k))) p in
        let less = rest (sym (ap (λ b. cond b (Some c.1) (lookup (nat_eq k) bs)) p) ∙ e) j is in omega (arith, later)

pub bound_after-le : (bs : List (ℕ × Tree)) (k : ℕ) → bound_after bs k ≤ length bs
bound_after-le [] k = omega arith
bound_after-le (c ∷ bs) k = by (nat_eq k c.0) refl (bound_after-le bs k)
  where
    by : (b : Bool) → nat_eq k c.0 ≡ b → bound_after bs k ≤ length bs → bound_after (c ∷ bs) k ≤ length (c ∷ bs)
    by true p rest = omega (arith, ap (λ b. cond b 0 (suc (bound_after bs k))) p)
    by false p rest = omega (arith, ap (λ b. cond b 0 (suc (bound_after bs k))) p)

module _ (θ : ℕ → Tree) where
  pub Respects-push : (bs : List (ℕ × Tree)) (k : ℕ) (t : Tree) → Respects θ bs → θ k ≡ inst θ t → Respects θ (bs ++ (k, t) ∷ [])
  Respects-push [] k t r h = (h, tt)
  Respects-push (c ∷ bs) k t r h = (r.0, Respects-push bs k t r.1 h)

  pub Respects-front : (bs : List (ℕ × Tree)) (k : ℕ) (t : Tree) → Respects θ (bs ++ (k, t) ∷ []) → Respects θ bs × (θ k ≡ inst θ t)
  Respects-front [] k t r = (tt, r.0)
  Respects-front (c ∷ bs) k t r = let rest = Respects-front bs k t r.1 in ((r.0, rest.0), rest.1)

  -- what respects the bindings gives a bound hole the instance of its tree
  pub Respects-lookup : (bs : List (ℕ × Tree)) (k : ℕ) (t : Tree) → Respects θ bs → lookup (nat_eq k) bs ≡ Some t → θ k ≡ inst θ t
  Respects-lookup [] k t r e = absurd cc
  Respects-lookup (c ∷ bs) k t r e = by (eqb_tells k c.0) (Respects-lookup bs k t r.1)
    where
      by : ((nat_eq k c.0 ≡ true) × (k ≡ c.0)) ⊎ ((nat_eq k c.0 ≡ false) × (k ≢ c.0)) → (lookup (nat_eq k) bs ≡ Some t → θ k ≡ inst θ t) → θ k ≡ inst θ t
      by (inl p) rest =
          let same : Some c.1 ≡ Some t = sym (ap (λ b. cond b (Some c.1) (lookup (nat_eq k) bs)) p.0) ∙ e in
          let tree : c.1 ≡ t = cc in
          ap θ p.1 ∙ r.0 ∙ ap (inst θ) tree
      by (inr p) rest = rest (sym (ap (λ b. cond b (Some c.1) (lookup (nat_eq k) bs)) p.0) ∙ e)

  only-respected : (k : ℕ) (u : Tree) → θ k ≡ inst θ u → (j : ℕ) → inst θ (only k u j) ≡ θ j
  only-respected k u h j =
      ⊎_elim (λ p. ap (λ b. inst θ (cond b u (Hole j))) p.0 ∙ sym h ∙ ap θ p.1) (λ p. ap (λ b. inst θ (cond b u (Hole j))) p.0 ∙ inst-Hole θ j) (eqb_tells k j)

  with-respected : (s : ℕ → Tree) (k : ℕ) (t : Tree) → ((j : ℕ) → inst θ (s j) ≡ θ j) → θ k ≡ inst θ t → (j : ℕ) → inst θ (with_binding s (k, t) j) ≡ θ j
  with-respected s k t h e j =
      let whole : θ k ≡ inst θ (inst s t) = e ∙ sym (inst-equal (λ i. inst θ (s i)) θ h t) ∙ sym (inst-inst θ s t) in
      inst-inst θ (only k (inst s t)) (s j) ∙ inst-equal (λ i. inst θ (only k (inst s t) i)) θ (only-respected k (inst s t) whole) (s j) ∙ h j

  solved_from-respected : (s : ℕ → Tree) (bs : List (ℕ × Tree)) → ((j : ℕ) → inst θ (s j) ≡ θ j) → Respects θ bs → (j : ℕ) → inst θ (solved_from s bs j) ≡ θ j
  solved_from-respected s [] h r = h
  solved_from-respected s (b ∷ bs) h r = solved_from-respected (with_binding s b) bs (with-respected s b.0 b.1 h r.0) r.1

  -- what respects the bindings is an instance of what they give
  pub solved-respected : (bs : List (ℕ × Tree)) → Respects θ bs → (j : ℕ) → inst θ (solved bs j) ≡ θ j
  solved-respected bs r = solved_from-respected Hole bs (inst-Hole θ) r

pub solved_from-push : (s : ℕ → Tree) (bs : List (ℕ × Tree)) (b : ℕ × Tree) → solved_from s (bs ++ b ∷ []) ≡ with_binding (solved_from s bs) b
solved_from-push s [] b = refl
solved_from-push s (c ∷ bs) b = solved_from-push (with_binding s c) bs b

Respects-then : (τ s : ℕ → Tree) (bs : List (ℕ × Tree)) → Respects s bs → Respects (λ j. inst τ (s j)) bs
Respects-then τ s [] r = tt
Respects-then τ s (b ∷ bs) r = (ap (inst τ) r.0 ∙ inst-inst τ s b.1, Respects-then τ s bs r.1)

only-other : (k : ℕ) (u : Tree) (j : ℕ) → k ≢ j → only k u j ≡ Hole j
only-other k u j ne = ap (λ b. cond b u (Hole j)) (ne_eqb k j ne)

only-same : (k : ℕ) (u : Tree) → only k u k ≡ u
only-same k u = ap (λ b. cond b u (Hole k)) (eq-eqb k k refl)

-- a loose hole is bound to a tree in which it does not stand
module _ (bs : List (ℕ × Tree)) (k : ℕ) (t : Tree) (before : IsAcyclic bs) (loose : lookup (nat_eq k) bs ≡ None)
    (absent : hole_count (nat_eq k) (inst (solved bs) t) ≡ 0) where
  kept : inst (only k (inst (solved bs) t)) (inst (solved bs) t) ≡ inst (solved bs) t
  kept = inst-same (only k (inst (solved bs) t)) (inst (solved bs) t) (λ j s.
      only-other k (inst (solved bs) t) j (λ e. let a = ap (λ i. hole_count (nat_eq i) (inst (solved bs) t)) e in absurd (omega arith)))

  loose_after : (j : ℕ) → lookup (nat_eq j) (bs ++ (k, t) ∷ []) ≡ None → with_binding (solved bs) (k, t) j ≡ Hole j
  loose_after j e =
      let parts = lookup-push_none bs k t j e in
      ap (inst (only k (inst (solved bs) t))) (before.loose j parts.0) ∙ inst-Hole _ j ∙ only-other k (inst (solved bs) t) j (λ same. parts.1 (sym same))

  bound_to : with_binding (solved bs) (k, t) k ≡ inst (solved bs) t
  bound_to = ap (inst (only k (inst (solved bs) t))) (before.loose k loose) ∙ inst-Hole _ k ∙ only-same k (inst (solved bs) t)

  respected_after : Respects (with_binding (solved bs) (k, t)) (bs ++ (k, t) ∷ [])
  respected_after =
      Respects-push (with_binding (solved bs) (k, t)) bs k t (Respects-then (only k (inst (solved bs) t)) (solved bs) bs before.respected)
      (bound_to ∙ sym kept ∙ inst-inst (only k (inst (solved bs) t)) (solved bs) t)

  settled_tree : (i : ℕ) → lookup (nat_eq i) (bs ++ (k, t) ∷ []) ≢ None → hole_count (nat_eq i) (inst (solved bs) t) ≡ 0
  settled_tree i bound =
      ⊎_elim (λ p. ap (λ j. hole_count (nat_eq j) (inst (solved bs) t)) p.1 ∙ absent)
      (λ p. hole_count-inst (nat_eq i) (solved bs) t (λ j s. before.settled j i (λ e. bound (lookup-push_other bs k t i p.1 ∙ e)))) (eqb_tells i k)

  settled_hole : (i j m : ℕ) → lookup (nat_eq i) (bs ++ (k, t) ∷ []) ≢ None → k ≢ m → StandsIn m (solved bs j) → hole_count (nat_eq i) (Hole m) ≡ 0
  settled_hole i j m bound ne s = hole_count-other i m (λ e.
      let other : i ≢ k = λ same. ne (sym same ∙ e) in
      let none = before.settled j i (λ free. bound (lookup-push_other bs k t i other ∙ free)) in
      let stands = ap (λ n. hole_count (nat_eq n) (solved bs j)) e in
      absurd (omega arith))

  settled_after : (j i : ℕ) → lookup (nat_eq i) (bs ++ (k, t) ∷ []) ≢ None → hole_count (nat_eq i) (with_binding (solved bs) (k, t) j) ≡ 0
  settled_after j i bound = hole_count-inst (nat_eq i) (only k (inst (solved bs) t)) (solved bs j) (λ m s.
      ⊎_elim (λ p. ap (λ b. hole_count (nat_eq i) (cond b (inst (solved bs) t) (Hole m))) p.0 ∙ settled_tree i bound)
      (λ p. ap (hole_count (nat_eq i)) (only-other k (inst (solved bs) t) m p.1) ∙ settled_hole i j m bound p.1 s) (eqb_tells k m))

  pub IsAcyclic-push : IsAcyclic (bs ++ (k, t) ∷ [])
  IsAcyclic-push =
      let e = sym (solved_from-push Hole bs (k, t)) in
      record {
        respected = subst (λ s. Respects s (bs ++ (k, t) ∷ [])) e respected_after;
        loose = subst (λ s. (j : ℕ) → lookup (nat_eq j) (bs ++ (k, t) ∷ []) ≡ None → s j ≡ Hole j) e loose_after;
        settled = subst (λ s. (j i : ℕ) → lookup (nat_eq i) (bs ++ (k, t) ∷ []) ≢ None → hole_count (nat_eq i) (s j) ≡ 0) e settled_after;
      }

pub IsAcyclic-none : IsAcyclic []
IsAcyclic-none = record { respected = tt; loose = λ k e. refl; settled = λ j k h. absurd (h refl) }
