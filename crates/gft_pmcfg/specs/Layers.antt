-- Runs: functions by layers, and induction.
use Rattle.std.specs.Prelude.{◌≡◌, ℕ, List, [], ◌∷◌, map, ⊤}
use Rattle.std.proofs.Common.{sym, ap, ◌∙◌, subst}
use Rattle.gft_pmcfg.specs.declared.run.Run.{Run, App, Int, Str, Hole, fold-Run, fold-roll-Run, roll-Run, ind-Run, map-Run}
use Rattle.gft_pmcfg.specs.declared.run.Run.TheOpen.{Run-F}
use Rattle.gft_pmcfg.specs.declared.run.Run.TheOpen as layer
use Rattle.gft_pmcfg.specs.declared.run.Run.TheVariants.{rolls-App, rolls-Int, rolls-Str, rolls-Hole}

-- a function of a run by one step: what a layer gives, once each argument has given its result
abbrev pub by_layers : (A : Type 0) → (Run-F A → A) → Run → A
by_layers A step = fold-Run A step

-- the same for each run of a list
abbrev pub each : {A : Type 0} → (Run-F A → A) → List Run → List A
each {A} step runs = map (by_layers A step) runs

pub by_layers-App : {A : Type 0} (step : Run-F A → A) (p : ℕ) (rs : List Run)
    → by_layers A step (App p rs) ≡ step (layer.App p (each step rs))
by_layers-App {A} step p rs = ap (fold-Run A step) (sym (rolls-App p rs))
    ∙ fold-roll-Run A step (layer.App p rs)

pub by_layers-Int : {A : Type 0} (step : Run-F A → A) (n : ℕ) → by_layers A step (Int n) ≡ step (layer.Int n)
by_layers-Int {A} step n = ap (fold-Run A step) (sym (rolls-Int n)) ∙ fold-roll-Run A step (layer.Int n)

pub by_layers-Str : {A : Type 0} (step : Run-F A → A) (w : List ℕ)
    → by_layers A step (Str w) ≡ step (layer.Str w)
by_layers-Str {A} step w = ap (fold-Run A step) (sym (rolls-Str w)) ∙ fold-roll-Run A step (layer.Str w)

pub by_layers-Hole : {A : Type 0} (step : Run-F A → A) (n : ℕ)
    → by_layers A step (Hole n) ≡ step (layer.Hole n)
by_layers-Hole {A} step n = ap (fold-Run A step) (sym (rolls-Hole n)) ∙ fold-roll-Run A step (layer.Hole n)

-- what holds of each run of a list
abbrev pub Each : (Run → Type 0) → List Run → Type 0
Each P [] = ⊤
Each P (r ∷ rs) = P r × Each P rs

-- a list of runs with what holds of them
held : (P : Run → Type 0) (ys : List ((r : Run) × P r)) → Each P (map (λ (y : (r : Run) × P r). y.0) ys)
held P [] = tt
held P (y ∷ ys) = (y.1, held P ys)

-- induction on runs
pub induction : (P : Run → Type 0)
    → ((p : ℕ) (rs : List Run) → Each P rs → P (App p rs))
    → ((n : ℕ) → P (Int n)) → ((w : List ℕ) → P (Str w)) → ((n : ℕ) → P (Hole n))
    → (r : Run) → P r
induction P app int str hole = ind-Run P by_layer where
  by_layer : (x : Run-F Run) (y : Run-F ((r : Run) × P r))
      → map-Run ((r : Run) × P r) Run (λ y. y.0) y ≡ x → P (roll-Run x)
  by_layer x (layer.App p ys) e =
      subst (λ (z : Run-F Run). P (roll-Run z)) e (subst P (sym (rolls-App p _)) (app p _ (held P ys)))
  by_layer x (layer.Int n) e =
      subst (λ (z : Run-F Run). P (roll-Run z)) e (subst P (sym (rolls-Int n)) (int n))
  by_layer x (layer.Str w) e =
      subst (λ (z : Run-F Run). P (roll-Run z)) e (subst P (sym (rolls-Str w)) (str w))
  by_layer x (layer.Hole n) e =
      subst (λ (z : Run-F Run). P (roll-Run z)) e (subst P (sym (rolls-Hole n)) (hole n))
