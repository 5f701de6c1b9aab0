-- A hole that stands inside a tree has no instance that equals the tree's.
use Rattle.std.proofs.Common.{◌≡◌, ◌≢◌, ℕ, zero, suc, ◌<◌, ◌≤◌, nat_eq, List, [], ◌∷◌, map, refl, sym, ap, ⊎_elim, arith}
use Rattle.std.proofs.lemmas.Bool.Decides.{eqb_tells}
use Rattle.gft_core.specs.declared.tree.Tree.{Tree}
use Rattle.gft_core.specs.declared.tree.Tree.TheVariants.{App, Hole}
use Rattle.gft_unify.specs.Layers.{Each, induction}
use Rattle.gft_unify.specs.Instances.{inst, total, hole_count, node_count, StandsIn}
use Rattle.gft_unify.proofs.Equations.{inst-App, inst-Hole, hole_count-App, hole_count-Int, hole_count-Str, hole_count-other, node_count-App}

module _ (θ : ℕ → Tree) (k : ℕ) where
  Small : Tree → Type 0
  Small t = StandsIn k t → node_count (θ k) ≤ node_count (inst θ t)

  small_all : (xs : List Tree) → Each Small xs → 0 < total (hole_count (nat_eq k)) xs → node_count (θ k) ≤ total node_count (map (inst θ) xs)
  unfolding Small
  small_all [] p h = absurd (omega arith)
  small_all (x ∷ xs) p h = by (hole_count (nat_eq k) x) refl (small_all xs p.1)
    where
      by : (n : ℕ) → hole_count (nat_eq k) x ≡ n → (0 < total (hole_count (nat_eq k)) xs → node_count (θ k) ≤ total node_count (map (inst θ) xs)) → node_count (θ k) ≤ total node_count (map (inst θ) (x ∷ xs))
      by zero e rest =
          let below = rest (omega arith) in
          omega arith
      by (suc n) e rest =
          let here : node_count (θ k) ≤ node_count (inst θ x) = p.0 (omega arith) in
          omega arith

  small_inside : (f : List ℕ) (xs : List Tree) → Each Small xs → StandsIn k (App f xs) → node_count (θ k) < node_count (inst θ (App f xs))
  small_inside f xs p s =
      let inside = small_all xs p (omega (arith, hole_count-App (nat_eq k) f xs)) in
      omega (arith, ap node_count (inst-App θ f xs), node_count-App f (map (inst θ) xs))

  at_hole : (j : ℕ) → StandsIn k (Hole j) → k ≡ j
  at_hole j s = ⊎_elim (λ p. p.1) (λ p. absurd (omega (arith, hole_count-other k j p.1))) (eqb_tells k j)

  -- an instance of a tree is no smaller than that of a hole that stands in it
  node_count-le : (t : Tree) → StandsIn k t → node_count (θ k) ≤ node_count (inst θ t)
  unfolding Small
  node_count-le = induction Small
      (λ f xs p s. let less = small_inside f xs p s in omega arith)
      (λ n s. absurd (omega (arith, hole_count-Int (nat_eq k) n))) (λ w s. absurd (omega (arith, hole_count-Str (nat_eq k) w)))
      (λ j s. let same = ap node_count (inst-Hole θ j) in let e = ap (λ i. node_count (θ i)) (at_hole j s) in omega arith)

  Apart : Tree → Type 0
  Apart t = StandsIn k t → t ≢ Hole k → θ k ≢ inst θ t

  each : (xs : List Tree) → Each Small xs
  unfolding Small
  each [] = tt
  each (x ∷ xs) = (node_count-le x, each xs)

  -- no substitution makes a hole equal to a tree that it stands inside
  pub occurs : (t : Tree) → StandsIn k t → t ≢ Hole k → θ k ≢ inst θ t
  unfolding Apart
  occurs = induction Apart
      (λ f xs p s ne e. let less = small_inside f xs (each xs) s in let same = ap node_count e in omega arith)
      (λ n s. absurd (omega (arith, hole_count-Int (nat_eq k) n))) (λ w s. absurd (omega (arith, hole_count-Str (nat_eq k) w)))
      (λ j s ne e. ne (ap Hole (sym (at_hole j s))))
