-- Parameter values: their layers, and what a fold gives, one equation a form.
use Rattle.std.specs.Prelude.{◌≡◌, ℕ, List, map}
use Rattle.std.proofs.Common.{sym, ap, ◌∙◌}
use Rattle.gft_syntax.specs.Layers.{on_second}
use Rattle.gft_syntax.specs.declared.reference.Whole.{Whole}
use Rattle.gft_syntax.specs.declared.value.Param.{Param, roll-Param}
use Rattle.gft_syntax.specs.declared.value.Param.TheVariants.{Con, Ints, Record, rolls-Con, rolls-Ints, rolls-Record}
use Rattle.gft_syntax.specs.declared.value.Param.TheOpen as Param-F
use Rattle.gft_syntax.specs.declared.value.Param.TheFolds.{fold-Param, fold-roll-Param, map-Param}

-- one layer of a parameter value
abbrev pub Layer : Type 0
Layer = Param-F.Param-F Param

module _ (A : Type 0) (step : Param-F.Param-F A → A) where
  -- what the step makes of a parameter value, from what it makes of its parts
  abbrev fold : Param → A
  fold = fold-Param A step

  at : (d : Layer) {t : Param} → roll-Param d ≡ t → fold t ≡ step (map-Param Param A fold d)
  at d e = ap fold (sym e) ∙ fold-roll-Param A step d

  pub fold-Con : (w : Whole) (vs : List Param) → fold (Con w vs) ≡ step (Param-F.Con w (map fold vs))
  fold-Con w vs = at _ (rolls-Con w vs)

  pub fold-Ints : (n : ℕ) → fold (Ints n) ≡ step (Param-F.Ints n)
  fold-Ints n = at _ (rolls-Ints n)

  pub fold-Record : (fs : List (List ℕ × Param)) → fold (Record fs) ≡ step (Param-F.Record (map (on_second fold) fs))
  fold-Record fs = at _ (rolls-Record fs)
