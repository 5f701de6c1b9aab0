-- What instances, counts and heads are at each variant of a tree.
use Rattle.std.proofs.Common.{◌≡◌, ℕ, suc, ◌+◌, Bool, true, false, cond, nat_eq, eq-eqb, List, [], ◌∷◌, map, length, refl, ap, ◌∙◌, ◌≢◌, ne_eqb, arith}
use Rattle.gft_core.specs.declared.tree.Tree.{Tree}
use Rattle.gft_core.specs.declared.tree.Tree.TheVariants.{App, Int, Str, Hole}
use Rattle.gft_unify.specs.Layers.{folded-App, folded-Int, folded-Str, folded-Hole}
use Rattle.gft_unify.specs.Instances.{inst, total, hole_count, node_count, StandsIn}
use Rattle.gft_unify.specs.Heads.{function, number, word, hole, head_of}

pub inst-App : (θ : ℕ → Tree) (f : List ℕ) (xs : List Tree) → inst θ (App f xs) ≡ App f (map (inst θ) xs)
inst-App θ = folded-App App Int Str θ

pub inst-Int : (θ : ℕ → Tree) (n : ℕ) → inst θ (Int n) ≡ Int n
inst-Int θ = folded-Int App Int Str θ

pub inst-Str : (θ : ℕ → Tree) (w : List ℕ) → inst θ (Str w) ≡ Str w
inst-Str θ = folded-Str App Int Str θ

pub inst-Hole : (θ : ℕ → Tree) (k : ℕ) → inst θ (Hole k) ≡ θ k
inst-Hole θ = folded-Hole App Int Str θ

total-map : {X : Type 0} (f : X → ℕ) (xs : List X) → total (λ n. n) (map f xs) ≡ total f xs
total-map f [] = refl
total-map f (x ∷ xs) = ap (λ n. f x + n) (total-map f xs)

pub hole_count-App : (test : ℕ → Bool) (f : List ℕ) (xs : List Tree) → hole_count test (App f xs) ≡ total (hole_count test) xs
hole_count-App test f xs = folded-App _ _ _ _ f xs ∙ total-map (hole_count test) xs

pub hole_count-Int : (test : ℕ → Bool) (n : ℕ) → hole_count test (Int n) ≡ 0
hole_count-Int test n = folded-Int _ _ _ _ n

pub hole_count-Str : (test : ℕ → Bool) (w : List ℕ) → hole_count test (Str w) ≡ 0
hole_count-Str test w = folded-Str _ _ _ _ w

pub hole_count-Hole : (test : ℕ → Bool) (k : ℕ) → hole_count test (Hole k) ≡ cond (test k) 1 0
hole_count-Hole test k = folded-Hole _ _ _ _ k

pub hole_count-passing : (test : ℕ → Bool) (k : ℕ) → test k ≡ true → hole_count test (Hole k) ≡ 1
hole_count-passing test k e = hole_count-Hole test k ∙ ap (λ b. cond b 1 0) e

pub hole_count-failing : (test : ℕ → Bool) (k : ℕ) → test k ≡ false → hole_count test (Hole k) ≡ 0
hole_count-failing test k e = hole_count-Hole test k ∙ ap (λ b. cond b 1 0) e

pub StandsIn-Hole : (k : ℕ) → StandsIn k (Hole k)
StandsIn-Hole k = omega (arith, hole_count-passing (nat_eq k) k (eq-eqb k k refl))

pub hole_count-other : (k j : ℕ) → k ≢ j → hole_count (nat_eq k) (Hole j) ≡ 0
hole_count-other k j ne = hole_count-failing (nat_eq k) j (ne_eqb k j ne)

pub node_count-App : (f : List ℕ) (xs : List Tree) → node_count (App f xs) ≡ total node_count xs + 1
node_count-App f xs = folded-App _ _ _ _ f xs ∙ ap (λ n. n + 1) (total-map node_count xs)

pub node_count-Int : (n : ℕ) → node_count (Int n) ≡ 1
node_count-Int n = folded-Int _ _ _ _ n

pub node_count-Str : (w : List ℕ) → node_count (Str w) ≡ 1
node_count-Str w = folded-Str _ _ _ _ w

pub node_count-Hole : (k : ℕ) → node_count (Hole k) ≡ 1
node_count-Hole k = folded-Hole _ _ _ _ k

length-map : {X Y : Type 0} (f : X → Y) (xs : List X) → length (map f xs) ≡ length xs
length-map f [] = refl
length-map f (x ∷ xs) = ap suc (length-map f xs)

pub head_of-App : (f : List ℕ) (xs : List Tree) → head_of (App f xs) ≡ function f (length xs)
head_of-App f xs = folded-App _ _ _ _ f xs ∙ ap (function f) (length-map head_of xs)

pub head_of-Int : (n : ℕ) → head_of (Int n) ≡ number n
head_of-Int n = folded-Int _ _ _ _ n

pub head_of-Str : (w : List ℕ) → head_of (Str w) ≡ word w
head_of-Str w = folded-Str _ _ _ _ w

pub head_of-Hole : (k : ℕ) → head_of (Hole k) ≡ hole k
head_of-Hole k = folded-Hole _ _ _ _ k
