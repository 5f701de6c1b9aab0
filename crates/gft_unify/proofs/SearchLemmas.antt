-- One step of a search for a hole, and what is left after it.
use Rattle.std.proofs.Common.{◌≡◌, ◌≢◌, ℕ, ◌+◌, ◌<◌, nat_eq, List, [], ◌∷◌, ◌++◌, map, Bor, refl, sym, ap, subst, ◌∙◌, arith}
use Rattle.gft_core.specs.declared.tree.Tree.{Tree}
use Rattle.gft_core.specs.declared.tree.Tree.TheVariants.{App, Int, Str, Hole}
use Rattle.gft_unify.specs.Instances.{inst, total, hole_count, node_count, StandsIn}
use Rattle.gft_unify.specs.Bindings.{trees_of}
use Rattle.gft_unify.proofs.Equations.{inst-App, inst-Int, inst-Str, inst-Hole, hole_count-App, hole_count-Int, hole_count-Str, hole_count-other, StandsIn-Hole, node_count-App}
use Rattle.gft_unify.proofs.WorkLemmas.{total-append, node_count-positive}

pub trees_of-push : (pending : List (Bor Tree)) (t : Bor Tree) → trees_of (pending ++ t ∷ []) ≡ trees_of pending ++ t.now ∷ []
trees_of-push [] t = refl
trees_of-push (p ∷ ps) t = ap (λ ts. p.now ∷ ts) (trees_of-push ps t)

module _ (s : ℕ → Tree) (k : ℕ) where
  pub total-insts : (f : Tree → ℕ) (xs : List Tree) → total f (map (inst s) xs) ≡ total (λ t. f (inst s t)) xs
  total-insts f [] = refl
  total-insts f (x ∷ xs) = ap (λ n. f (inst s x) + n) (total-insts f xs)

  pub occurrences-Int : (t : Tree) (n : ℕ) → t ≡ Int n → hole_count (nat_eq k) (inst s t) ≡ 0
  occurrences-Int t n e = ap (λ u. hole_count (nat_eq k) u) (ap (inst s) e ∙ inst-Int s n) ∙ hole_count-Int (nat_eq k) n

  pub occurrences-Str : (t : Tree) (w : List ℕ) → t ≡ Str w → hole_count (nat_eq k) (inst s t) ≡ 0
  occurrences-Str t w e = ap (λ u. hole_count (nat_eq k) u) (ap (inst s) e ∙ inst-Str s w) ∙ hole_count-Str (nat_eq k) w

  pub occurrences-other : (t : Tree) (j : ℕ) → t ≡ Hole j → s j ≡ Hole j → k ≢ j → hole_count (nat_eq k) (inst s t) ≡ 0
  occurrences-other t j e loose ne = ap (λ u. hole_count (nat_eq k) u) (ap (inst s) e ∙ inst-Hole s j ∙ loose) ∙ hole_count-other k j ne

  pub occurrences-same : (t : Tree) (j : ℕ) → t ≡ Hole j → s j ≡ Hole j → j ≡ k → 0 < hole_count (nat_eq k) (inst s t)
  occurrences-same t j e loose same =
      let whole : inst s t ≡ Hole k = ap (inst s) e ∙ inst-Hole s j ∙ loose ∙ ap Hole same in
      subst (StandsIn k) (sym whole) (StandsIn-Hole k)

  occurrences-App : (t : Tree) (f : List ℕ) (xs : List Tree) → t ≡ App f xs → hole_count (nat_eq k) (inst s t) ≡ total (λ x. hole_count (nat_eq k) (inst s x)) xs
  occurrences-App t f xs e = ap (λ u. hole_count (nat_eq k) u) (ap (inst s) e ∙ inst-App s f xs) ∙ hole_count-App (nat_eq k) f _ ∙ total-insts (hole_count (nat_eq k)) xs

  pub size-App : (t : Tree) (f : List ℕ) (xs : List Tree) → t ≡ App f xs → node_count (inst s t) ≡ total (λ x. node_count (inst s x)) xs + 1
  size-App t f xs e = ap node_count (ap (inst s) e ∙ inst-App s f xs) ∙ node_count-App f _ ∙ ap (λ n. n + 1) (total-insts node_count xs)

  -- the tree was taken from those that are pending, and t stands for it
  module _ (cur new : List Tree) (taken t : Tree) (popped : cur ≡ new ++ taken ∷ []) (same : inst s t ≡ inst s taken) where
    counts : total (λ x. hole_count (nat_eq k) (inst s x)) cur ≡ total (λ x. hole_count (nat_eq k) (inst s x)) new + hole_count (nat_eq k) (inst s t)
    counts =
        let whole = ap (total (λ x. hole_count (nat_eq k) (inst s x))) popped ∙ total-append s (λ x. hole_count (nat_eq k) (inst s x)) new (taken ∷ []) in
        let e = ap (hole_count (nat_eq k)) same in omega arith

    sizes : total (λ x. node_count (inst s x)) cur ≡ total (λ x. node_count (inst s x)) new + node_count (inst s t)
    sizes =
        let whole = ap (total (λ x. node_count (inst s x))) popped ∙ total-append s (λ x. node_count (inst s x)) new (taken ∷ []) in
        let e = ap node_count same in omega arith

    pub step-smaller : total (λ x. node_count (inst s x)) new < total (λ x. node_count (inst s x)) cur
    step-smaller = omega (arith, sizes, node_count-positive s (inst s t))

    pub step-kept : (n : ℕ) → hole_count (nat_eq k) (inst s t) ≡ 0 → n ≡ total (λ x. hole_count (nat_eq k) (inst s x)) cur → n ≡ total (λ x. hole_count (nat_eq k) (inst s x)) new
    step-kept n none e = omega (arith, counts)

    pub step-found : (n : ℕ) → 0 < hole_count (nat_eq k) (inst s t) → n ≡ total (λ x. hole_count (nat_eq k) (inst s x)) cur → 0 < n
    step-found n some e = omega (arith, counts)

    module _ (f : List ℕ) (xs after : List Tree) (app : t ≡ App f xs) (pushed : after ≡ new ++ xs) where
      pub step-smaller-App : total (λ x. node_count (inst s x)) after < total (λ x. node_count (inst s x)) cur
      step-smaller-App =
          let whole = ap (total (λ x. node_count (inst s x))) pushed ∙ total-append s (λ x. node_count (inst s x)) new xs in
          omega (arith, sizes, size-App t f xs app)

      pub step-kept-App : (n : ℕ) → n ≡ total (λ x. hole_count (nat_eq k) (inst s x)) cur → n ≡ total (λ x. hole_count (nat_eq k) (inst s x)) after
      step-kept-App n e =
          let whole = ap (total (λ x. hole_count (nat_eq k) (inst s x))) pushed ∙ total-append s (λ x. hole_count (nat_eq k) (inst s x)) new xs in
          omega (arith, counts, occurrences-App t f xs app)
