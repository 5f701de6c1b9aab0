-- Counts of holes: what passes a stronger test is fewer.
use Rattle.std.proofs.Common.{◌≡◌, ◌≢◌, ◌⊎◌, inl, inr, ℕ, zero, suc, ◌+◌, ◌<◌, ◌≤◌, Bool, true, false, nat_eq, List, [], ◌∷◌, refl, sym, ap, ◌∙◌, arith}
use Rattle.std.proofs.lemmas.Bool.Decides.{eqb_tells}
use Rattle.gft_core.specs.declared.tree.Tree.{Tree}
use Rattle.gft_core.specs.declared.tree.Tree.TheVariants.{App, Hole}
use Rattle.gft_unify.specs.Layers.{Each, induction}
use Rattle.gft_unify.specs.Instances.{total, hole_count}
use Rattle.gft_unify.specs.Substitutions.{hole_count_of_pairs}
use Rattle.gft_unify.specs.Parts.{Among, IsPart, left, right, argument}
use Rattle.gft_unify.proofs.Equations.{hole_count-App, hole_count-Int, hole_count-Str, hole_count-passing, hole_count-failing, hole_count-other, StandsIn-Hole}

among-total : {X : Type 0} (f : X → ℕ) (x : X) (xs : List X) → Among x xs → f x ≤ total f xs
among-total f x [] m = absurd m
among-total f x (y ∷ ys) (inl e) = let same = ap f e in omega arith
among-total f x (y ∷ ys) (inr m) = omega (arith, among-total f x ys m)

-- what stands in no pair stands in no part
module _ (test : ℕ → Bool) (pairs : List (Tree × Tree)) (none : hole_count_of_pairs test pairs ≡ 0) where
  pub hole_count-part : (t : Tree) → IsPart pairs t → hole_count test t ≡ 0
  hole_count-part t (left a b m) = omega (arith, among-total (λ p. hole_count test p.0 + hole_count test p.1) (a, b) pairs m)
  hole_count-part t (right a b m) = omega (arith, among-total (λ p. hole_count test p.0 + hole_count test p.1) (a, b) pairs m)
  hole_count-part t (argument f xs x whole m) =
      let inside = hole_count-part (App f xs) whole in omega (arith, hole_count-App test f xs, among-total (hole_count test) x xs m)

-- a hole that is a part stands in the pairs
pub stands_in_pairs : (pairs : List (Tree × Tree)) (k : ℕ) → IsPart pairs (Hole k) → 0 < hole_count_of_pairs (nat_eq k) pairs
stands_in_pairs pairs k part = by (hole_count_of_pairs (nat_eq k) pairs) refl
  where
    by : (n : ℕ) → hole_count_of_pairs (nat_eq k) pairs ≡ n → 0 < hole_count_of_pairs (nat_eq k) pairs
    by zero e = let none = hole_count-part (nat_eq k) pairs e (Hole k) part in let one = StandsIn-Hole k in absurd (omega arith)
    by (suc n) e = omega arith

-- q passes what p passes, but for k
module _ (p q : ℕ → Bool) (k : ℕ) (weaker : (j : ℕ) → q j ≡ true → p j ≡ true) (passes : p k ≡ true) (fails : q k ≡ false) where
  Fewer : Tree → Type 0
  Fewer t = hole_count q t + hole_count (nat_eq k) t ≤ hole_count p t

  fewer_all : (xs : List Tree) → Each Fewer xs → total (hole_count q) xs + total (hole_count (nat_eq k)) xs ≤ total (hole_count p) xs
  unfolding Fewer
  fewer_all [] h = omega arith
  fewer_all (x ∷ xs) h = let first = h.0 in omega (arith, fewer_all xs h.1)

  fewer_hole : (j : ℕ) → hole_count q (Hole j) + hole_count (nat_eq k) (Hole j) ≤ hole_count p (Hole j)
  fewer_hole j = by (eqb_tells k j)
    where
      other : (b : Bool) → q j ≡ b → k ≢ j → hole_count q (Hole j) + hole_count (nat_eq k) (Hole j) ≤ hole_count p (Hole j)
      other true e ne = omega (arith, hole_count-passing q j e, hole_count-passing p j (weaker j e), hole_count-other k j ne)
      other false e ne = omega (arith, hole_count-failing q j e, hole_count-other k j ne)

      by : ((nat_eq k j ≡ true) × (k ≡ j)) ⊎ ((nat_eq k j ≡ false) × (k ≢ j)) → hole_count q (Hole j) + hole_count (nat_eq k) (Hole j) ≤ hole_count p (Hole j)
      by (inl same) =
          omega (arith, hole_count-failing q j (ap q (sym same.1) ∙ fails), hole_count-passing p j (ap p (sym same.1) ∙ passes), hole_count-passing (nat_eq k) j same.0)
      by (inr same) = other (q j) refl same.1

  fewer : (t : Tree) → hole_count q t + hole_count (nat_eq k) t ≤ hole_count p t
  unfolding Fewer
  fewer = induction Fewer (λ f xs h. omega (arith, fewer_all xs h, hole_count-App q f xs, hole_count-App p f xs, hole_count-App (nat_eq k) f xs))
      (λ n. omega (arith, hole_count-Int q n, hole_count-Int (nat_eq k) n)) (λ w. omega (arith, hole_count-Str q w, hole_count-Str (nat_eq k) w)) fewer_hole

  fewer_in_pairs : (pairs : List (Tree × Tree)) → hole_count_of_pairs q pairs + hole_count_of_pairs (nat_eq k) pairs ≤ hole_count_of_pairs p pairs
  fewer_in_pairs [] = omega arith
  fewer_in_pairs (r ∷ rs) = omega (arith, fewer r.0, fewer r.1, fewer_in_pairs rs)

  pub count_less : (pairs : List (Tree × Tree)) → 0 < hole_count_of_pairs (nat_eq k) pairs → hole_count_of_pairs q pairs < hole_count_of_pairs p pairs
  count_less pairs some = omega (arith, fewer_in_pairs pairs)
