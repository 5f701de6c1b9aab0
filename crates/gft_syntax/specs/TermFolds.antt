-- Terms: their layers, and what a fold gives, one equation a form.
use Rattle.std.specs.Prelude.{◌≡◌, ℕ, List, [], ◌∷◌, Option, Some, None, map, refl}
use Rattle.std.proofs.Common.{sym, ap, ◌∙◌}
use Rattle.gft_syntax.specs.Layers.{on_case, on_local, map_option}
use Rattle.gft_core.specs.declared.place.Place.{Place}
use Rattle.gft_syntax.specs.declared.bind.Bind.{Bind}
use Rattle.gft_syntax.specs.declared.reference.Reference.{Reference}
use Rattle.gft_syntax.specs.declared.term.Case.{Case}
use Rattle.gft_syntax.specs.declared.term.Local.{Local}
use Rattle.gft_syntax.specs.declared.term.Local.TheVariants as Local-V
use Rattle.gft_syntax.specs.declared.term.Sort.{Sort as Sort'}
use Rattle.gft_syntax.specs.declared.term.Term.{Term, roll-Term}
use Rattle.gft_syntax.specs.declared.term.Term.TheVariants.{Alt, Fun, TabFun, Arrow, TabType, Let, Concat, Glue, Select, Extend, Pair, TableOf, TableList, App, CaseOf, Variants, Proj, Var, Lit, Num, Empty, ListCat, Sort, Fields, Tuple, Typed, rolls-Alt, rolls-Fun, rolls-TabFun, rolls-Arrow, rolls-TabType, rolls-Let, rolls-Concat, rolls-Glue, rolls-Select, rolls-Extend, rolls-Pair, rolls-TableOf, rolls-TableList, rolls-App, rolls-CaseOf, rolls-Variants, rolls-Proj, rolls-Var, rolls-Lit, rolls-Num, rolls-Empty, rolls-ListCat, rolls-Sort, rolls-Fields, rolls-Tuple, rolls-Typed}
use Rattle.gft_syntax.specs.declared.term.Term.TheOpen as Term-F
use Rattle.gft_syntax.specs.declared.term.Term.TheShapes.{former-Term-Let-0-at-7}
use Rattle.gft_syntax.specs.declared.term.Term.TheFolds.{fold-Term, fold-roll-Term, map-Term}

-- one layer of a term
abbrev pub Layer : Type 0
Layer = Term-F.Term-F Term

-- functions that agree make one list of a list
map_same : {B C : Type 0} {f g : B → C} → ((b : B) → f b ≡ g b) → (bs : List B) → map f bs ≡ map g bs
map_same h [] = refl
map_same {f = f} {g = g} h (b ∷ bs) = ap (λ c. c ∷ map f bs) (h b) ∙ ap (λ cs. g b ∷ cs) (map_same h bs)

-- the generated change of a local is that of its terms
local_same : {A : Type 0} (f : Term → A) (l : Local Term) → former-Term-Let-0-at-7.map Term A f l ≡ on_local f l
local_same f (Local-V.Value xs e) = refl
local_same f (Local-V.Label xs t) = refl
local_same f (Local-V.TypedValue xs t e) = refl

module _ (A : Type 0) (step : Term-F.Term-F A → A) where
  -- what the step makes of a term, from what it makes of its parts
  abbrev fold : Term → A
  fold = fold-Term A step

  at : (d : Layer) {t : Term} → roll-Term d ≡ t → fold t ≡ step (map-Term Term A fold d)
  at d e = ap fold (sym e) ∙ fold-roll-Term A step d

  pub fold-Alt : (a : Term) (b : Term) (place : Place) → fold (Alt a b place) ≡ step (Term-F.Alt (fold a) (fold b) place)
  fold-Alt a b place = at _ (rolls-Alt a b place)

  pub fold-Fun : (xs : List Bind) (e : Term) (place : Place) → fold (Fun xs e place) ≡ step (Term-F.Fun xs (fold e) place)
  fold-Fun xs e place = at _ (rolls-Fun xs e place)

  pub fold-TabFun : (xs : List Bind) (e : Term) (place : Place)
      → fold (TabFun xs e place) ≡ step (Term-F.TabFun xs (fold e) place)
  fold-TabFun xs e place = at _ (rolls-TabFun xs e place)

  pub fold-Arrow : (xs : List Bind) (a : Term) (b : Term) (place : Place)
      → fold (Arrow xs a b place) ≡ step (Term-F.Arrow xs (fold a) (fold b) place)
  fold-Arrow xs a b place = at _ (rolls-Arrow xs a b place)

  pub fold-TabType : (a : Term) (b : Term) (place : Place)
      → fold (TabType a b place) ≡ step (Term-F.TabType (fold a) (fold b) place)
  fold-TabType a b place = at _ (rolls-TabType a b place)

  pub fold-Let : (ls : List (Local Term)) (e : Term) (place : Place)
      → fold (Let ls e place) ≡ step (Term-F.Let (map (on_local fold) ls) (fold e) place)
  fold-Let ls e place =
      at _ (rolls-Let ls e place) ∙ ap (λ ks. step (Term-F.Let ks (fold e) place)) (map_same (local_same fold) ls)

  pub fold-Concat : (a : Term) (b : Term) (place : Place) → fold (Concat a b place) ≡ step (Term-F.Concat (fold a) (fold b) place)
  fold-Concat a b place = at _ (rolls-Concat a b place)

  pub fold-Glue : (a : Term) (b : Term) (place : Place) → fold (Glue a b place) ≡ step (Term-F.Glue (fold a) (fold b) place)
  fold-Glue a b place = at _ (rolls-Glue a b place)

  pub fold-Select : (a : Term) (b : Term) (place : Place) → fold (Select a b place) ≡ step (Term-F.Select (fold a) (fold b) place)
  fold-Select a b place = at _ (rolls-Select a b place)

  pub fold-Extend : (a : Term) (b : Term) (place : Place) → fold (Extend a b place) ≡ step (Term-F.Extend (fold a) (fold b) place)
  fold-Extend a b place = at _ (rolls-Extend a b place)

  pub fold-Pair : (a : Term) (b : Term) (place : Place) → fold (Pair a b place) ≡ step (Term-F.Pair (fold a) (fold b) place)
  fold-Pair a b place = at _ (rolls-Pair a b place)

  pub fold-TableOf : (p : Option Term) (cs : List (Case Term)) (place : Place)
      → fold (TableOf p cs place) ≡ step (Term-F.TableOf (map_option fold p) (map (on_case fold) cs) place)
  fold-TableOf None cs place = at _ (rolls-TableOf None cs place)
  fold-TableOf (Some p) cs place = at _ (rolls-TableOf (Some p) cs place)

  pub fold-TableList : (p : Term) (ts : List Term) (place : Place)
      → fold (TableList p ts place) ≡ step (Term-F.TableList (fold p) (map fold ts) place)
  fold-TableList p ts place = at _ (rolls-TableList p ts place)

  pub fold-App : (f : Term) (a : Term) (place : Place) → fold (App f a place) ≡ step (Term-F.App (fold f) (fold a) place)
  fold-App f a place = at _ (rolls-App f a place)

  pub fold-CaseOf : (e : Term) (cs : List (Case Term)) (place : Place)
      → fold (CaseOf e cs place) ≡ step (Term-F.CaseOf (fold e) (map (on_case fold) cs) place)
  fold-CaseOf e cs place = at _ (rolls-CaseOf e cs place)

  pub fold-Variants : (ts : List Term) (place : Place) → fold (Variants ts place) ≡ step (Term-F.Variants (map fold ts) place)
  fold-Variants ts place = at _ (rolls-Variants ts place)

  pub fold-Proj : (e : Term) (x : List ℕ) (place : Place) → fold (Proj e x place) ≡ step (Term-F.Proj (fold e) x place)
  fold-Proj e x place = at _ (rolls-Proj e x place)

  pub fold-Var : (r : Reference) (place : Place) → fold (Var r place) ≡ step (Term-F.Var r place)
  fold-Var r place = at _ (rolls-Var r place)

  pub fold-Lit : (text : List ℕ) (place : Place) → fold (Lit text place) ≡ step (Term-F.Lit text place)
  fold-Lit text place = at _ (rolls-Lit text place)

  pub fold-Num : (n : ℕ) (place : Place) → fold (Num n place) ≡ step (Term-F.Num n place)
  fold-Num n place = at _ (rolls-Num n place)

  pub fold-Empty : (place : Place) → fold (Empty place) ≡ step (Term-F.Empty place)
  fold-Empty place = at _ (rolls-Empty place)

  pub fold-ListCat : (r : Reference) (place : Place) → fold (ListCat r place) ≡ step (Term-F.ListCat r place)
  fold-ListCat r place = at _ (rolls-ListCat r place)

  pub fold-Sort : (s : Sort') (place : Place) → fold (Sort s place) ≡ step (Term-F.Sort s place)
  fold-Sort s place = at _ (rolls-Sort s place)

  pub fold-Fields : (ls : List (Local Term)) (place : Place)
      → fold (Fields ls place) ≡ step (Term-F.Fields (map (on_local fold) ls) place)
  fold-Fields ls place =
      at _ (rolls-Fields ls place) ∙ ap (λ ks. step (Term-F.Fields ks place)) (map_same (local_same fold) ls)

  pub fold-Tuple : (ts : List Term) (place : Place) → fold (Tuple ts place) ≡ step (Term-F.Tuple (map fold ts) place)
  fold-Tuple ts place = at _ (rolls-Tuple ts place)

  pub fold-Typed : (e : Term) (t : Term) (place : Place) → fold (Typed e t place) ≡ step (Term-F.Typed (fold e) (fold t) place)
  fold-Typed e t place = at _ (rolls-Typed e t place)
