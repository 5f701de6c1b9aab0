-- Concrete types: their layers, and what a fold gives, one equation a form.
use Rattle.std.specs.Prelude.{◌≡◌, ℕ, List, map}
use Rattle.std.proofs.Common.{sym, ap, ◌∙◌}
use Rattle.gft_syntax.specs.Layers.{on_second}
use Rattle.gft_syntax.specs.declared.reference.Whole.{Whole}
use Rattle.gft_syntax.specs.declared.ctype.CType.{CType, roll-CType}
use Rattle.gft_syntax.specs.declared.ctype.CType.TheVariants.{Str, Param, Ints, Record, Table, Fun, TypeSort, ParamSort, rolls-Str, rolls-Param, rolls-Ints, rolls-Record, rolls-Table, rolls-Fun, rolls-TypeSort, rolls-ParamSort}
use Rattle.gft_syntax.specs.declared.ctype.CType.TheOpen as CType-F
use Rattle.gft_syntax.specs.declared.ctype.CType.TheFolds.{fold-CType, fold-roll-CType, map-CType}

-- one layer of a concrete type
abbrev pub Layer : Type 0
Layer = CType-F.CType-F CType

module _ (A : Type 0) (step : CType-F.CType-F A → A) where
  -- what the step makes of a concrete type, from what it makes of its parts
  abbrev fold : CType → A
  fold = fold-CType A step

  at : (d : Layer) {t : CType} → roll-CType d ≡ t → fold t ≡ step (map-CType CType A fold d)
  at d e = ap fold (sym e) ∙ fold-roll-CType A step d

  pub fold-Str : fold Str ≡ step CType-F.Str
  fold-Str = at _ rolls-Str

  pub fold-Param : (w : Whole) (cs : List (Whole × List CType))
      → fold (Param w cs) ≡ step (CType-F.Param w (map (on_second (map fold)) cs))
  fold-Param w cs = at _ (rolls-Param w cs)

  pub fold-Ints : (n : ℕ) → fold (Ints n) ≡ step (CType-F.Ints n)
  fold-Ints n = at _ (rolls-Ints n)

  pub fold-Record : (fs : List (List ℕ × CType)) → fold (Record fs) ≡ step (CType-F.Record (map (on_second fold) fs))
  fold-Record fs = at _ (rolls-Record fs)

  pub fold-Table : (a : CType) (b : CType) → fold (Table a b) ≡ step (CType-F.Table (fold a) (fold b))
  fold-Table a b = at _ (rolls-Table a b)

  pub fold-Fun : (a : CType) (b : CType) → fold (Fun a b) ≡ step (CType-F.Fun (fold a) (fold b))
  fold-Fun a b = at _ (rolls-Fun a b)

  pub fold-TypeSort : fold TypeSort ≡ step CType-F.TypeSort
  fold-TypeSort = at _ rolls-TypeSort

  pub fold-ParamSort : fold ParamSort ≡ step CType-F.ParamSort
  fold-ParamSort = at _ rolls-ParamSort
