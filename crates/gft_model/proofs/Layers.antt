-- Trees: functions by layers, and induction.
use Rattle.std.specs.Prelude.{◌≡◌, ℕ, List, [], ◌∷◌, map, ⊤}
use Rattle.std.proofs.Common.{sym, ap, ◌∙◌, subst}
use Rattle.gft_core.specs.declared.tree.Tree.{Tree, App, Int, Str, Hole, fold-Tree, fold-roll-Tree, roll-Tree, ind-Tree, map-Tree}
use Rattle.gft_core.specs.declared.tree.Tree.TheOpen.{Tree-F}
use Rattle.gft_core.specs.declared.tree.Tree.TheOpen as layer
use Rattle.gft_core.specs.declared.tree.Tree.TheVariants.{rolls-App, rolls-Int, rolls-Str, rolls-Hole}

-- a function of a tree by one step: what a layer gives, once each argument has given its result
abbrev pub by_layers : (A : Type 0) → (Tree-F A → A) → Tree → A
by_layers A step = fold-Tree A step

-- the same for each tree of a list
abbrev pub each : {A : Type 0} → (Tree-F A → A) → List Tree → List A
each {A} step trees = map (by_layers A step) trees

pub by_layers-App : {A : Type 0} (step : Tree-F A → A) (f : List ℕ) (ts : List Tree)
    → by_layers A step (App f ts) ≡ step (layer.App f (each step ts))
by_layers-App {A} step f ts = ap (fold-Tree A step) (sym (rolls-App f ts))
    ∙ fold-roll-Tree A step (layer.App f ts)

pub by_layers-Int : {A : Type 0} (step : Tree-F A → A) (n : ℕ) → by_layers A step (Int n) ≡ step (layer.Int n)
by_layers-Int {A} step n = ap (fold-Tree A step) (sym (rolls-Int n)) ∙ fold-roll-Tree A step (layer.Int n)

pub by_layers-Str : {A : Type 0} (step : Tree-F A → A) (w : List ℕ)
    → by_layers A step (Str w) ≡ step (layer.Str w)
by_layers-Str {A} step w = ap (fold-Tree A step) (sym (rolls-Str w)) ∙ fold-roll-Tree A step (layer.Str w)

pub by_layers-Hole : {A : Type 0} (step : Tree-F A → A) (k : ℕ)
    → by_layers A step (Hole k) ≡ step (layer.Hole k)
by_layers-Hole {A} step k = ap (fold-Tree A step) (sym (rolls-Hole k)) ∙ fold-roll-Tree A step (layer.Hole k)

-- what holds of each tree of a list
abbrev pub Each : (Tree → Type 0) → List Tree → Type 0
Each P [] = ⊤
Each P (t ∷ ts) = P t × Each P ts

-- a list of trees with what holds of them
held : (P : Tree → Type 0) (ys : List ((t : Tree) × P t)) → Each P (map (λ (y : (t : Tree) × P t). y.0) ys)
held P [] = tt
held P (y ∷ ys) = (y.1, held P ys)

-- induction on trees
pub induction : (P : Tree → Type 0)
    → ((f : List ℕ) (ts : List Tree) → Each P ts → P (App f ts))
    → ((n : ℕ) → P (Int n)) → ((w : List ℕ) → P (Str w)) → ((k : ℕ) → P (Hole k))
    → (t : Tree) → P t
induction P app int str hole = ind-Tree P by_layer where
  by_layer : (x : Tree-F Tree) (y : Tree-F ((t : Tree) × P t))
      → map-Tree ((t : Tree) × P t) Tree (λ y. y.0) y ≡ x → P (roll-Tree x)
  by_layer x (layer.App f ys) e =
      subst (λ (z : Tree-F Tree). P (roll-Tree z)) e (subst P (sym (rolls-App f _)) (app f _ (held P ys)))
  by_layer x (layer.Int n) e =
      subst (λ (z : Tree-F Tree). P (roll-Tree z)) e (subst P (sym (rolls-Int n)) (int n))
  by_layer x (layer.Str w) e =
      subst (λ (z : Tree-F Tree). P (roll-Tree z)) e (subst P (sym (rolls-Str w)) (str w))
  by_layer x (layer.Hole k) e =
      subst (λ (z : Tree-F Tree). P (roll-Tree z)) e (subst P (sym (rolls-Hole k)) (hole k))
