-- Patterns: their layers, and what a fold gives, one equation a form.
use Rattle.std.specs.Prelude.{◌≡◌, ℕ, List, Option, map}
use Rattle.std.proofs.Common.{sym, ap, ◌∙◌}
use Rattle.gft_syntax.specs.Layers.{on_field}
use Rattle.gft_core.specs.declared.place.Place.{Place}
use Rattle.gft_syntax.specs.declared.reference.Reference.{Reference}
use Rattle.gft_syntax.specs.declared.pattern.PatternField.{PatternField}
use Rattle.gft_syntax.specs.declared.pattern.Pattern.{Pattern, roll-Pattern}
use Rattle.gft_syntax.specs.declared.pattern.Pattern.TheVariants.{Or, Seq, Con, Star, As, Any, One, Name, Text, Num, Fields, Tuple, rolls-Or, rolls-Seq, rolls-Con, rolls-Star, rolls-As, rolls-Any, rolls-One, rolls-Name, rolls-Text, rolls-Num, rolls-Fields, rolls-Tuple}
use Rattle.gft_syntax.specs.declared.pattern.Pattern.TheOpen as Pattern-F
use Rattle.gft_syntax.specs.declared.pattern.Pattern.TheFolds.{fold-Pattern, fold-roll-Pattern, map-Pattern}

-- one layer of a pattern
abbrev pub Layer : Type 0
Layer = Pattern-F.Pattern-F Pattern

module _ (A : Type 0) (step : Pattern-F.Pattern-F A → A) where
  -- what the step makes of a pattern, from what it makes of its parts
  abbrev fold : Pattern → A
  fold = fold-Pattern A step

  at : (d : Layer) {t : Pattern} → roll-Pattern d ≡ t → fold t ≡ step (map-Pattern Pattern A fold d)
  at d e = ap fold (sym e) ∙ fold-roll-Pattern A step d

  pub fold-Or : (p : Pattern) (q : Pattern) (place : Place) → fold (Or p q place) ≡ step (Pattern-F.Or (fold p) (fold q) place)
  fold-Or p q place = at _ (rolls-Or p q place)

  pub fold-Seq : (p : Pattern) (q : Pattern) (place : Place) → fold (Seq p q place) ≡ step (Pattern-F.Seq (fold p) (fold q) place)
  fold-Seq p q place = at _ (rolls-Seq p q place)

  pub fold-Con : (m : Option (List ℕ)) (r : Reference) (ps : List Pattern) (place : Place)
      → fold (Con m r ps place) ≡ step (Pattern-F.Con m r (map fold ps) place)
  fold-Con m r ps place = at _ (rolls-Con m r ps place)

  pub fold-Star : (p : Pattern) (place : Place) → fold (Star p place) ≡ step (Pattern-F.Star (fold p) place)
  fold-Star p place = at _ (rolls-Star p place)

  pub fold-As : (x : List ℕ) (p : Pattern) (place : Place) → fold (As x p place) ≡ step (Pattern-F.As x (fold p) place)
  fold-As x p place = at _ (rolls-As x p place)

  pub fold-Any : (place : Place) → fold (Any place) ≡ step (Pattern-F.Any place)
  fold-Any place = at _ (rolls-Any place)

  pub fold-One : (place : Place) → fold (One place) ≡ step (Pattern-F.One place)
  fold-One place = at _ (rolls-One place)

  pub fold-Name : (r : Reference) (place : Place) → fold (Name r place) ≡ step (Pattern-F.Name r place)
  fold-Name r place = at _ (rolls-Name r place)

  pub fold-Text : (text : List ℕ) (place : Place) → fold (Text text place) ≡ step (Pattern-F.Text text place)
  fold-Text text place = at _ (rolls-Text text place)

  pub fold-Num : (n : ℕ) (place : Place) → fold (Num n place) ≡ step (Pattern-F.Num n place)
  fold-Num n place = at _ (rolls-Num n place)

  pub fold-Fields : (fs : List (PatternField Pattern)) (place : Place)
      → fold (Fields fs place) ≡ step (Pattern-F.Fields (map (on_field fold) fs) place)
  fold-Fields fs place = at _ (rolls-Fields fs place)

  pub fold-Tuple : (ps : List Pattern) (place : Place) → fold (Tuple ps place) ≡ step (Pattern-F.Tuple (map fold ps) place)
  fold-Tuple ps place = at _ (rolls-Tuple ps place)
