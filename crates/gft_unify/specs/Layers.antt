-- Folds over trees, with an equation for each variant, and induction.
use Rattle.std.specs.Prelude.{◌≡◌, ℕ, List, [], ◌∷◌, map}
use Rattle.std.proofs.Common.{sym, ap, subst, ◌∙◌}
use Rattle.gft_core.specs.declared.tree.Tree.{Tree, roll-Tree, fold-Tree, fold-roll-Tree, ind-Tree, map-Tree}
use Rattle.gft_core.specs.declared.tree.Tree.TheVariants.{App, Int, Str, Hole, rolls-App, rolls-Int, rolls-Str, rolls-Hole}
use Rattle.gft_core.specs.declared.tree.Tree.TheOpen.{Tree-F, App as App-F, Int as Int-F, Str as Str-F, Hole as Hole-F}

module _ {A : Type 0} (app : List ℕ → List A → A) (int : ℕ → A) (str : List ℕ → A) (hole : ℕ → A) where
  -- what a layer gives, once its arguments have given theirs
  abbrev pub layer_step : Tree-F A → A
  layer_step (App-F f xs) = app f xs
  layer_step (Int-F n) = int n
  layer_step (Str-F w) = str w
  layer_step (Hole-F k) = hole k

  -- what a tree gives, from its arguments up
  abbrev pub folded : Tree → A
  folded = fold-Tree A layer_step

  pub folded-App : (f : List ℕ) (xs : List Tree) → folded (App f xs) ≡ app f (map folded xs)
  folded-App f xs = ap folded (sym (rolls-App f xs)) ∙ fold-roll-Tree A layer_step (App-F f xs)

  pub folded-Int : (n : ℕ) → folded (Int n) ≡ int n
  folded-Int n = ap folded (sym (rolls-Int n)) ∙ fold-roll-Tree A layer_step (Int-F n)

  pub folded-Str : (w : List ℕ) → folded (Str w) ≡ str w
  folded-Str w = ap folded (sym (rolls-Str w)) ∙ fold-roll-Tree A layer_step (Str-F w)

  pub folded-Hole : (k : ℕ) → folded (Hole k) ≡ hole k
  folded-Hole k = ap folded (sym (rolls-Hole k)) ∙ fold-roll-Tree A layer_step (Hole-F k)

-- P holds of each item
abbrev pub Each : {X : Type 0} → (X → Type 0) → List X → Type 0
Each P [] = Unit {0}
Each P (x ∷ xs) = P x × Each P xs

each_first : {X : Type 0} (P : X → Type 0) (ys : List ((x : X) × P x)) → Each P (map (λ y. y.0) ys)
each_first P [] = tt
each_first P (y ∷ ys) = (y.1, each_first P ys)

module _ (P : Tree → Type 0) (app : (f : List ℕ) (xs : List Tree) → Each P xs → P (App f xs)) (int : (n : ℕ) → P (Int n))
    (str : (w : List ℕ) → P (Str w)) (hole : (k : ℕ) → P (Hole k)) where
  layer : (y : Tree-F ((x : Tree) × P x)) → P (roll-Tree (map-Tree ((x : Tree) × P x) Tree (λ e. e.0) y))
  layer (App-F f ys) = subst P (sym (rolls-App f _)) (app f (map (λ y. y.0) ys) (each_first P ys))
  layer (Int-F n) = subst P (sym (rolls-Int n)) (int n)
  layer (Str-F w) = subst P (sym (rolls-Str w)) (str w)
  layer (Hole-F k) = subst P (sym (rolls-Hole k)) (hole k)

  -- what holds of a tree if it holds of its arguments holds of every tree
  pub induction : (t : Tree) → P t
  induction = ind-Tree P (λ x y e. subst (λ z. P (roll-Tree z)) e (layer y))
