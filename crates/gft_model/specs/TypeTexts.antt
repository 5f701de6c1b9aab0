-- How refusals write concrete types and parameter values: without the names of modules.
use Rattle.std.specs.Prelude.{ℕ, List, [], ◌∷◌, ◌++◌, flat_map, Bool, true, false, codes, decimal, if◌then◌else◌}
use Rattle.std.specs.List.{join_by}
use Rattle.gft_syntax.specs.declared.ctype.CType.{CType}
use Rattle.gft_syntax.specs.declared.ctype.CType.TheOpen.{CType-F}
use Rattle.gft_syntax.specs.declared.ctype.CType.TheFolds.{fold-CType}
use Rattle.gft_syntax.specs.declared.value.Param.{Param}
use Rattle.gft_syntax.specs.declared.value.Param.TheOpen.{Param-F}
use Rattle.gft_syntax.specs.declared.value.Param.TheFolds.{fold-Param}

-- a text, and whether it has parentheses where another is part of it
pub record Written : Type 0 where
  pub text : List ℕ
  pub is_wide : Bool

abbrev pub narrow : List ℕ → Written
narrow s = record { text = s; is_wide = false }

abbrev pub wide : List ℕ → Written
wide s = record { text = s; is_wide = true }

abbrev pub in_parentheses : Written → List ℕ
in_parentheses w = if w.is_wide then codes "(" ++ w.text ++ codes ")" else w.text

-- fields in braces with semicolons between
abbrev pub field_texts : List ℕ → List (List ℕ × Written) → List ℕ
field_texts sign fs = codes "{" ++ join_by (λ f. f.0 ++ sign ++ f.1.text) (codes " ; ") fs ++ codes "}"

abbrev pub type_step : CType-F Written → Written
type_step CType-F.Str = narrow (codes "Str")
type_step (CType-F.Param w cs) = narrow w.name
type_step (CType-F.Ints n) = narrow (codes "Ints " ++ decimal n)
type_step (CType-F.Record fs) = narrow (field_texts (codes " : ") fs)
type_step (CType-F.Table P V) = wide (P.text ++ codes " => " ++ V.text)
type_step (CType-F.Fun A B) = wide (in_parentheses A ++ codes " -> " ++ B.text)
type_step CType-F.TypeSort = narrow (codes "Type")
type_step CType-F.ParamSort = narrow (codes "PType")

-- the text of a type
abbrev pub type_text : CType → List ℕ
type_text T = (fold-CType Written type_step T).text

abbrev pub param_step : Param-F Written → Written
param_step (Param-F.Con w []) = narrow w.name
param_step (Param-F.Con w (v ∷ vs)) = wide (w.name ++ flat_map (λ u. codes " " ++ in_parentheses u) (v ∷ vs))
param_step (Param-F.Ints n) = narrow (decimal n)
param_step (Param-F.Record fs) = narrow (field_texts (codes " = ") fs)

-- the text of a parameter value
abbrev pub param_text : Param → List ℕ
param_text v = (fold-Param Written param_step v).text
