-- Values: their layers, and what a fold gives, one equation a form.
use Rattle.std.specs.Prelude.{◌≡◌, ℕ, List, map}
use Rattle.std.proofs.Common.{sym, ap, ◌∙◌}
use Rattle.gft_syntax.specs.Layers.{on_second}
use Rattle.gft_core.specs.declared.symbol.Sym.{Sym}
use Rattle.gft_syntax.specs.declared.value.Param.{Param as Param'}
use Rattle.gft_syntax.specs.declared.value.Value.{Value, roll-Value}
use Rattle.gft_syntax.specs.declared.value.Value.TheVariants.{Str, Param, Record, Table, rolls-Str, rolls-Param, rolls-Record, rolls-Table}
use Rattle.gft_syntax.specs.declared.value.Value.TheOpen as Value-F
use Rattle.gft_syntax.specs.declared.value.Value.TheFolds.{fold-Value, fold-roll-Value, map-Value}

-- one layer of a value
abbrev pub Layer : Type 0
Layer = Value-F.Value-F Value

module _ (A : Type 0) (step : Value-F.Value-F A → A) where
  -- what the step makes of a value, from what it makes of its parts
  abbrev fold : Value → A
  fold = fold-Value A step

  at : (d : Layer) {t : Value} → roll-Value d ≡ t → fold t ≡ step (map-Value Value A fold d)
  at d e = ap fold (sym e) ∙ fold-roll-Value A step d

  pub fold-Str : (ss : List Sym) → fold (Str ss) ≡ step (Value-F.Str ss)
  fold-Str ss = at _ (rolls-Str ss)

  pub fold-Param : (v : Param') → fold (Param v) ≡ step (Value-F.Param v)
  fold-Param v = at _ (rolls-Param v)

  pub fold-Record : (fs : List (List ℕ × Value)) → fold (Record fs) ≡ step (Value-F.Record (map (on_second fold) fs))
  fold-Record fs = at _ (rolls-Record fs)

  pub fold-Table : (es : List (Param' × Value)) → fold (Table es) ≡ step (Value-F.Table (map (on_second fold) es))
  fold-Table es = at _ (rolls-Table es)
