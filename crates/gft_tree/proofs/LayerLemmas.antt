-- Folds of a tree, one equation for each layer, and induction.
use Rattle.std.proofs.Common.{◌≡◌, ℕ, List, [], ◌∷◌, map, ap, sym, ◌∙◌, subst}
use Rattle.gft_core.specs.declared.tree.Tree.{Tree, roll-Tree, fold-Tree, fold-roll-Tree, ind-Tree, map-Tree}
use Rattle.gft_core.specs.declared.tree.Tree.TheOpen.{Tree-F, App, Int, Str, Hole}
use Rattle.gft_core.specs.declared.tree.Tree.TheVariants.{rolls-App, rolls-Int, rolls-Str, rolls-Hole}
use Rattle.gft_core.specs.declared.tree.Tree.TheVariants as tree

module _ (A : Type 0) (step : Tree-F A → A) where
  pub fold-App : (f : List ℕ) (ts : List Tree) → fold-Tree A step (tree.App f ts) ≡ step (App f (map (fold-Tree A step) ts))
  fold-App f ts = ap (fold-Tree A step) (sym (rolls-App f ts)) ∙ fold-roll-Tree A step (App f ts)

  pub fold-Int : (n : ℕ) → fold-Tree A step (tree.Int n) ≡ step (Int n)
  fold-Int n = ap (fold-Tree A step) (sym (rolls-Int n)) ∙ fold-roll-Tree A step (Int n)

  pub fold-Str : (w : List ℕ) → fold-Tree A step (tree.Str w) ≡ step (Str w)
  fold-Str w = ap (fold-Tree A step) (sym (rolls-Str w)) ∙ fold-roll-Tree A step (Str w)

  pub fold-Hole : (k : ℕ) → fold-Tree A step (tree.Hole k) ≡ step (Hole k)
  fold-Hole k = ap (fold-Tree A step) (sym (rolls-Hole k)) ∙ fold-roll-Tree A step (Hole k)

-- each of the trees
abbrev pub Each : (Tree → Type 0) → List Tree → Type 0
Each P [] = Unit {0}
Each P (t ∷ ts) = P t × Each P ts

each_of : (P : Tree → Type 0) (S : Type 0) (at : S → Tree) → ((s : S) → P (at s)) → (ss : List S) → Each P (map at ss)
each_of P S at h [] = tt
each_of P S at h (s ∷ ss) = (h s, each_of P S at h ss)

-- what holds of each layer whose children it holds of, holds of each tree
pub tree_induction : (P : Tree → Type 0) → ((f : List ℕ) (ts : List Tree) → Each P ts → P (tree.App f ts)) → ((n : ℕ) → P (tree.Int n))
    → ((w : List ℕ) → P (tree.Str w)) → ((k : ℕ) → P (tree.Hole k)) → (t : Tree) → P t
tree_induction P app int str hole = ind-Tree P (λ x y e.
    let Q : Tree-F Tree → Type 0 = λ z. P (roll-Tree z) in
    subst Q e (elim y as (λ z. P (roll-Tree (map-Tree _ _ (λ q. q.0) z))) [
      | App f ys ↦ subst P (sym (rolls-App f (map (λ q. q.0) ys))) (app f (map (λ q. q.0) ys) (each_of P _ (λ q. q.0) (λ q. q.1) ys))
      | Int n ↦ subst P (sym (rolls-Int n)) (int n)
      | Str w ↦ subst P (sym (rolls-Str w)) (str w)
      | Hole k ↦ subst P (sym (rolls-Hole k)) (hole k)
    ]))
