-- Instances of trees, and the holes that stand in them.
use Rattle.std.proofs.Common.{◌≡◌, ℕ, ◌<◌, Bool, nat_eq, List, [], ◌∷◌, map, refl, sym, ap, ap₂, ◌∙◌, arith}
use Rattle.gft_core.specs.declared.tree.Tree.{Tree}
use Rattle.gft_core.specs.declared.tree.Tree.TheVariants.{App, Hole}
use Rattle.gft_unify.specs.Layers.{Each, induction}
use Rattle.gft_unify.specs.Instances.{inst, total, hole_count, StandsIn}
use Rattle.gft_unify.proofs.Equations.{inst-App, inst-Int, inst-Str, inst-Hole, hole_count-App, hole_count-Int, hole_count-Str, StandsIn-Hole}

-- substitutions that agree on the holes of a tree give it one instance
module _ (θ φ : ℕ → Tree) where
  Agree : Tree → Type 0
  Agree t = ((k : ℕ) → StandsIn k t → θ k ≡ φ k) → inst θ t ≡ inst φ t

  agree_all : (xs : List Tree) → Each Agree xs → ((k : ℕ) → 0 < total (hole_count (nat_eq k)) xs → θ k ≡ φ k) → map (inst θ) xs ≡ map (inst φ) xs
  unfolding Agree
  agree_all [] p h = refl
  agree_all (x ∷ xs) p h =
      ap₂ ◌∷◌ (p.0 (λ k s. h k (omega arith))) (agree_all xs p.1 (λ k s. h k (omega arith)))

  pub inst-agree : (t : Tree) → ((k : ℕ) → StandsIn k t → θ k ≡ φ k) → inst θ t ≡ inst φ t
  unfolding Agree
  inst-agree = induction Agree
      (λ f xs p h. inst-App θ f xs ∙ ap (App f) (agree_all xs p (λ k s. h k (omega (arith, hole_count-App (nat_eq k) f xs)))) ∙ sym (inst-App φ f xs))
      (λ n h. inst-Int θ n ∙ sym (inst-Int φ n)) (λ w h. inst-Str θ w ∙ sym (inst-Str φ w))
      (λ k h. inst-Hole θ k ∙ h k (StandsIn-Hole k) ∙ sym (inst-Hole φ k))

-- an instance of an instance
module _ (θ φ : ℕ → Tree) where
  Twice : Tree → Type 0
  Twice t = inst θ (inst φ t) ≡ inst (λ k. inst θ (φ k)) t

  twice_all : (xs : List Tree) → Each Twice xs → map (inst θ) (map (inst φ) xs) ≡ map (inst (λ k. inst θ (φ k))) xs
  unfolding Twice
  twice_all [] p = refl
  twice_all (x ∷ xs) p = ap₂ ◌∷◌ p.0 (twice_all xs p.1)

  pub inst-inst : (t : Tree) → inst θ (inst φ t) ≡ inst (λ k. inst θ (φ k)) t
  unfolding Twice
  inst-inst = induction Twice
      (λ f xs p. ap (inst θ) (inst-App φ f xs) ∙ inst-App θ f _ ∙ ap (App f) (twice_all xs p) ∙ sym (inst-App (λ k. inst θ (φ k)) f xs))
      (λ n. ap (inst θ) (inst-Int φ n) ∙ inst-Int θ n ∙ sym (inst-Int (λ k. inst θ (φ k)) n))
      (λ w. ap (inst θ) (inst-Str φ w) ∙ inst-Str θ w ∙ sym (inst-Str (λ k. inst θ (φ k)) w))
      (λ k. ap (inst θ) (inst-Hole φ k) ∙ sym (inst-Hole (λ j. inst θ (φ j)) k))

-- each hole replaced by itself
Still : Tree → Type 0
Still t = inst Hole t ≡ t

still_all : (xs : List Tree) → Each Still xs → map (inst Hole) xs ≡ xs
unfolding Still
still_all [] p = refl
still_all (x ∷ xs) p = ap₂ ◌∷◌ p.0 (still_all xs p.1)

inst-holes : (t : Tree) → inst Hole t ≡ t
unfolding Still
inst-holes = induction Still (λ f xs p. inst-App Hole f xs ∙ ap (App f) (still_all xs p)) (inst-Int Hole) (inst-Str Hole) (inst-Hole Hole)

-- a substitution that leaves the holes of a tree leaves the tree
pub inst-same : (θ : ℕ → Tree) (t : Tree) → ((k : ℕ) → StandsIn k t → θ k ≡ Hole k) → inst θ t ≡ t
inst-same θ t h = inst-agree θ Hole t h ∙ inst-holes t

-- substitutions that are equal at each hole
pub inst-equal : (θ φ : ℕ → Tree) → ((k : ℕ) → θ k ≡ φ k) → (t : Tree) → inst θ t ≡ inst φ t
inst-equal θ φ h t = inst-agree θ φ t (λ k s. h k)

-- what stands in no tree that replaces a hole of t stands in no instance
module _ (test : ℕ → Bool) (φ : ℕ → Tree) where
  Clear : Tree → Type 0
  Clear t = ((k : ℕ) → StandsIn k t → hole_count test (φ k) ≡ 0) → hole_count test (inst φ t) ≡ 0

  clear_all : (xs : List Tree) → Each Clear xs → ((k : ℕ) → 0 < total (hole_count (nat_eq k)) xs → hole_count test (φ k) ≡ 0) → total (hole_count test) (map (inst φ) xs) ≡ 0
  unfolding Clear
  clear_all [] p h = refl
  clear_all (x ∷ xs) p h =
      let a : hole_count test (inst φ x) ≡ 0 = p.0 (λ k s. h k (omega arith)) in
      let b : total (hole_count test) (map (inst φ) xs) ≡ 0 = clear_all xs p.1 (λ k s. h k (omega arith)) in
      omega arith

  pub hole_count-inst : (t : Tree) → ((k : ℕ) → StandsIn k t → hole_count test (φ k) ≡ 0) → hole_count test (inst φ t) ≡ 0
  unfolding Clear
  hole_count-inst = induction Clear
      (λ f xs p h. ap (hole_count test) (inst-App φ f xs) ∙ hole_count-App test f _ ∙ clear_all xs p (λ k s. h k (omega (arith, hole_count-App (nat_eq k) f xs))))
      (λ n h. ap (hole_count test) (inst-Int φ n) ∙ hole_count-Int test n)
      (λ w h. ap (hole_count test) (inst-Str φ w) ∙ hole_count-Str test w)
      (λ k h. ap (hole_count test) (inst-Hole φ k) ∙ h k (StandsIn-Hole k))
