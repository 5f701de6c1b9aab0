-- Terms: their layers and places.
use Rattle.gft_core.specs.declared.place.Place.{Place}
use Rattle.gft_syntax.specs.declared.term.Term.{Term, out-Term}
use Rattle.gft_syntax.specs.declared.term.Term.TheOpen.{Term-F, Alt, Fun, TabFun, Arrow, TabType, Let, Concat, Glue, Select, Extend, Pair, TableOf, TableList, App, CaseOf, Variants, Proj, Var, Lit, Num, Empty, ListCat, Sort, Fields, Tuple, Typed}

-- one layer of a term
abbrev pub Layer : Type 0
Layer = Term-F Term

-- the place of a layer's first token
abbrev pub layer_place : Layer → Place
layer_place (Alt a b place) = place
layer_place (Fun xs e place) = place
layer_place (TabFun xs e place) = place
layer_place (Arrow xs a b place) = place
layer_place (TabType a b place) = place
layer_place (Let ls e place) = place
layer_place (Concat a b place) = place
layer_place (Glue a b place) = place
layer_place (Select a b place) = place
layer_place (Extend a b place) = place
layer_place (Pair a b place) = place
layer_place (TableOf p cs place) = place
layer_place (TableList p es place) = place
layer_place (App f a place) = place
layer_place (CaseOf e cs place) = place
layer_place (Variants es place) = place
layer_place (Proj e x place) = place
layer_place (Var x place) = place
layer_place (Lit text place) = place
layer_place (Num n place) = place
layer_place (Empty place) = place
layer_place (ListCat x place) = place
layer_place (Sort s place) = place
layer_place (Fields ls place) = place
layer_place (Tuple es place) = place
layer_place (Typed e t place) = place

-- the place of a term's first token
abbrev pub place_of : Term → Place
place_of t = layer_place (out-Term t)
