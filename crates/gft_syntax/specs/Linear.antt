-- Typed terms: their layers, and what a fold gives, one equation a form.
use Rattle.std.specs.Prelude.{◌≡◌, ℕ, List, Option, map}
use Rattle.std.proofs.Common.{sym, ap, ◌∙◌}
use Rattle.gft_syntax.specs.Layers.{on_second, on_branches}
use Rattle.gft_core.specs.declared.place.Place.{Place}
use Rattle.gft_syntax.specs.declared.reference.Whole.{Whole}
use Rattle.gft_syntax.specs.declared.ctype.CType.{CType}
use Rattle.gft_syntax.specs.declared.linear.Branches.{Branches}
use Rattle.gft_syntax.specs.declared.linear.Branches.TheVariants.{Matched, Listed}
use Rattle.gft_syntax.specs.declared.linear.Predef.{Predef as Predef'}
use Rattle.gft_syntax.specs.declared.linear.LinTerm.{LinTerm, roll-LinTerm}
use Rattle.gft_syntax.specs.declared.linear.LinTerm.TheVariants.{Var, Arg, Words, Num, Con, Concat, Glue, Predef, Record, Extend, Proj, Table, Select, Case, Variants, Let, Cut, Oper, Lambda, App, rolls-Var, rolls-Arg, rolls-Words, rolls-Num, rolls-Con, rolls-Concat, rolls-Glue, rolls-Predef, rolls-Record, rolls-Extend, rolls-Proj, rolls-Table, rolls-Select, rolls-Case, rolls-Variants, rolls-Let, rolls-Cut, rolls-Oper, rolls-Lambda, rolls-App}
use Rattle.gft_syntax.specs.declared.linear.LinTerm.TheOpen as LinTerm-F
use Rattle.gft_syntax.specs.declared.linear.LinTerm.TheFolds.{fold-LinTerm, fold-roll-LinTerm, map-LinTerm}

-- one layer of a typed term
abbrev pub Layer : Type 0
Layer = LinTerm-F.LinTerm-F LinTerm

module _ (A : Type 0) (step : LinTerm-F.LinTerm-F A → A) where
  -- what the step makes of a typed term, from what it makes of its parts
  abbrev fold : LinTerm → A
  fold = fold-LinTerm A step

  at : (d : Layer) {t : LinTerm} → roll-LinTerm d ≡ t → fold t ≡ step (map-LinTerm LinTerm A fold d)
  at d e = ap fold (sym e) ∙ fold-roll-LinTerm A step d

  pub fold-Var : (x : List ℕ) → fold (Var x) ≡ step (LinTerm-F.Var x)
  fold-Var x = at _ (rolls-Var x)

  pub fold-Arg : (i : ℕ) → fold (Arg i) ≡ step (LinTerm-F.Arg i)
  fold-Arg i = at _ (rolls-Arg i)

  pub fold-Words : (ws : List (List ℕ)) → fold (Words ws) ≡ step (LinTerm-F.Words ws)
  fold-Words ws = at _ (rolls-Words ws)

  pub fold-Num : (n : ℕ) → fold (Num n) ≡ step (LinTerm-F.Num n)
  fold-Num n = at _ (rolls-Num n)

  pub fold-Con : (c : Whole) (ts : List LinTerm) → fold (Con c ts) ≡ step (LinTerm-F.Con c (map fold ts))
  fold-Con c ts = at _ (rolls-Con c ts)

  pub fold-Concat : (a : LinTerm) (b : LinTerm) → fold (Concat a b) ≡ step (LinTerm-F.Concat (fold a) (fold b))
  fold-Concat a b = at _ (rolls-Concat a b)

  pub fold-Glue : (a : LinTerm) (b : LinTerm) (place : Place)
      → fold (Glue a b place) ≡ step (LinTerm-F.Glue (fold a) (fold b) place)
  fold-Glue a b place = at _ (rolls-Glue a b place)

  pub fold-Predef : (p : Predef') (n : LinTerm) (s : LinTerm) (place : Place)
      → fold (Predef p n s place) ≡ step (LinTerm-F.Predef p (fold n) (fold s) place)
  fold-Predef p n s place = at _ (rolls-Predef p n s place)

  pub fold-Record : (fs : List (List ℕ × LinTerm)) → fold (Record fs) ≡ step (LinTerm-F.Record (map (on_second fold) fs))
  fold-Record fs = at _ (rolls-Record fs)

  pub fold-Extend : (a : LinTerm) (b : LinTerm) → fold (Extend a b) ≡ step (LinTerm-F.Extend (fold a) (fold b))
  fold-Extend a b = at _ (rolls-Extend a b)

  pub fold-Proj : (t : LinTerm) (x : List ℕ) → fold (Proj t x) ≡ step (LinTerm-F.Proj (fold t) x)
  fold-Proj t x = at _ (rolls-Proj t x)

  pub fold-Table : (P : CType) (bs : Branches LinTerm) → fold (Table P bs) ≡ step (LinTerm-F.Table P (on_branches fold bs))
  fold-Table P (Matched bs) = at _ (rolls-Table P (Matched bs))
  fold-Table P (Listed Q ts) = at _ (rolls-Table P (Listed Q ts))

  pub fold-Select : (a : LinTerm) (b : LinTerm) → fold (Select a b) ≡ step (LinTerm-F.Select (fold a) (fold b))
  fold-Select a b = at _ (rolls-Select a b)

  pub fold-Case : (e : LinTerm) (bs : Branches LinTerm) (place : Place)
      → fold (Case e bs place) ≡ step (LinTerm-F.Case (fold e) (on_branches fold bs) place)
  fold-Case e (Matched bs) place = at _ (rolls-Case e (Matched bs) place)
  fold-Case e (Listed Q ts) place = at _ (rolls-Case e (Listed Q ts) place)

  pub fold-Variants : (ts : List LinTerm) → fold (Variants ts) ≡ step (LinTerm-F.Variants (map fold ts))
  fold-Variants ts = at _ (rolls-Variants ts)

  pub fold-Let : (xs : List (List ℕ)) (a : LinTerm) (b : LinTerm) → fold (Let xs a b) ≡ step (LinTerm-F.Let xs (fold a) (fold b))
  fold-Let xs a b = at _ (rolls-Let xs a b)

  pub fold-Cut : (t : LinTerm) (S : CType) (T : CType) → fold (Cut t S T) ≡ step (LinTerm-F.Cut (fold t) S T)
  fold-Cut t S T = at _ (rolls-Cut t S T)

  pub fold-Oper : (k : ℕ) → fold (Oper k) ≡ step (LinTerm-F.Oper k)
  fold-Oper k = at _ (rolls-Oper k)

  pub fold-Lambda : (x : Option (List ℕ)) (b : LinTerm) → fold (Lambda x b) ≡ step (LinTerm-F.Lambda x (fold b))
  fold-Lambda x b = at _ (rolls-Lambda x b)

  pub fold-App : (f : LinTerm) (a : LinTerm) → fold (App f a) ≡ step (LinTerm-F.App (fold f) (fold a))
  fold-App f a = at _ (rolls-App f a)
