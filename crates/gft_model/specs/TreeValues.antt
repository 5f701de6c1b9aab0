-- The bracketed values of a tree in a language that is given by its source terms.
use Rattle.std.specs.Prelude.{ℕ, suc, List, [], ◌∷◌, ◌++◌, map, flat_map, zip, take, decimal, codes, option_and_then, slice_get}
use Rattle.std.specs.List.{enumerate_from}
use Rattle.std.specs.Map.{keys_of}
use Rattle.std.specs.Option.{option_map_or, unwrap_or}
use Rattle.gft_core.specs.declared.symbol.Sym.{Sym}
use Rattle.gft_core.specs.declared.symbol.Sym.TheVariants.{Tok, Arg}
use Rattle.gft_core.specs.declared.tree.Tree.{Tree}
use Rattle.gft_core.specs.declared.tree.Tree.TheOpen.{Tree-F}
use Rattle.gft_core.specs.declared.tree.Tree.TheFolds.{fold-Tree}
use Rattle.gft_syntax.specs.declared.ctype.CType.{CType}
use Rattle.gft_syntax.specs.declared.ctype.CType.TheOpen.{CType-F}
use Rattle.gft_syntax.specs.declared.ctype.CType.TheFolds.{para-CType}
use Rattle.gft_syntax.specs.declared.flat.Flat.{Flat}
use Rattle.gft_syntax.specs.declared.judgement.Keyword.TheVariants as K
use Rattle.gft_syntax.specs.declared.value.Value.{Value}
use Rattle.gft_syntax.specs.declared.value.Value.TheOpen.{Value-F}
use Rattle.gft_syntax.specs.declared.value.Value.TheFolds.{fold-Value}
use Rattle.gft_model.specs.Brackets.{Mark, grammar, integer, text, Piece, word, bracketed}
use Rattle.gft_model.specs.ConcreteTypes.{upto, choices, values_of, layer_values}
use Rattle.gft_model.specs.Languages.{typed_at, lin_type, outcomes_on, arguments_of, lin_outcomes}
use Rattle.gft_model.specs.Outcomes.{Outcome, gives, given}
use Rattle.gft_model.specs.Values.{string_leaves}
use Rattle.gft_model.specs.ValueForms.{string_value, param_value, number_param, record_value, table_value}

-- a value whose string leaves are numbered from l on, and the number after them
abbrev pub Numbered : Type 0
Numbered = ℕ → Value × ℕ

-- fields or entries, one after the other
abbrev pub number_all : {A : Type 0} → List (A × Numbered) → ℕ → List (A × Value) × ℕ
number_all [] l = ([], l)
number_all (f ∷ fs) l = let here = f.1 l in let rest = number_all fs here.1 in ((f.0, here.0) ∷ rest.0, rest.1)

-- a layer with its leaves numbered
abbrev pub number_step : ℕ → Value-F Numbered → Numbered
number_step i (Value-F.Str ss) l = (string_value (Arg i l ∷ []), suc l)
number_step i (Value-F.Param v) l = (param_value v, l)
number_step i (Value-F.Record fs) l = let r = number_all fs l in (record_value r.0, r.1)
number_step i (Value-F.Table es) l = let r = number_all es l in (table_value r.0, r.1)

-- the value with each string leaf one closed part: leaf l of argument i, from 0
abbrev pub closed_parts : ℕ → Value → Value
closed_parts i v = (fold-Value Numbered (number_step i) v 0).0

-- a value of a tree: the value, and the bracketed string of each of its leaves
pub record BracketedValue : Type 0 where
  pub value : Value
  pub strings : List (List Piece)

-- what a closed part stands for
abbrev pub part_of : List BracketedValue → ℕ → ℕ → List Piece
part_of vs i l = unwrap_or (option_and_then (λ v. slice_get v.strings l) (slice_get vs i)) []

-- a string with its closed parts replaced; its own words are the grammar's
abbrev pub replaced : List BracketedValue → List Sym → List Piece
replaced vs [] = []
replaced vs (Tok w ∷ ss) = word grammar w ∷ replaced vs ss
replaced vs (Arg i l ∷ ss) = part_of vs i l ++ replaced vs ss

-- the values of arguments with their closed parts
abbrev pub as_arguments : List BracketedValue → List Value
as_arguments vs = map (λ v. closed_parts v.0 v.1.value) (enumerate_from 0 vs)

-- each value at the position: its bracket goes round every string leaf
abbrev pub at_position : List ℕ → List BracketedValue → List Value → List BracketedValue
at_position p vs us =
    map (λ u. record { value = u; strings = map (λ ss. bracketed p (replaced vs ss)) (string_leaves u) }) us

-- the value of a literal: the field s is its word, with the mark
abbrev pub literal_value : Mark → List ℕ → List ℕ → BracketedValue
literal_value mark w p =
    record { value = record_value ((codes "s", string_value (Tok w ∷ [])) ∷ []); strings = bracketed p (word mark w ∷ []) ∷ [] }

-- the values of a type with the closed part at each string leaf, one for each case, in order; what is a type itself
-- counts as the empty record
abbrev pub case_values_step : CType-F (CType × List Value) → List Value
case_values_step CType-F.Str = string_value (Arg 0 0 ∷ []) ∷ []
case_values_step (CType-F.Param w cs) = map param_value (layer_values (CType-F.Param w cs))
case_values_step (CType-F.Ints n) = map (λ k. param_value (number_param k)) (upto n)
case_values_step (CType-F.Record fs) = map (λ us. record_value (zip (keys_of fs) us)) (choices (map (λ f. f.1.1) fs))
case_values_step (CType-F.Table P V) =
    let vs = values_of P.0 in map (λ us. table_value (zip vs us)) (choices (map (λ v. V.1) vs))
case_values_step d = record_value [] ∷ []

abbrev pub values_by_case : CType → List Value
values_by_case = para-CType (List Value) case_values_step

-- the closed part ?n
abbrev pub hole_part : ℕ → BracketedValue
hole_part n = record { value = string_value (Arg 0 0 ∷ []); strings = (word grammar (codes "?" ++ decimal n) ∷ []) ∷ [] }

-- the outcomes for a hole of category C: its lindef on the closed part, else the value of the first case
abbrev pub hole_outcomes : Flat → List ℕ → List ℕ → List Outcome
hole_outcomes flat lang C = option_map_or (λ t. outcomes_on flat t.term (string_value (Arg 0 0 ∷ []) ∷ []))
    (typed_at flat K.Lindef lang C) (option_map_or (λ T. map gives (take 1 (values_by_case T))) (lin_type flat lang C) [])

-- the values of a tree at a position, where it is of a category
abbrev pub AtPosition : Type 0
AtPosition = List ℕ → List ℕ → List BracketedValue

-- those of the arguments of a function, numbered from 1
abbrev pub argument_values : List ℕ → List AtPosition → List (List ℕ) → List (List BracketedValue)
argument_values p ts Cs = map (λ a. a.1.0 (p ++ a.0 ∷ []) a.1.1) (enumerate_from 1 (zip ts Cs))

-- a function on one chosen value of each argument: the outcomes of its lin
abbrev pub function_values : Flat → List ℕ → List ℕ → List AtPosition → List ℕ → List BracketedValue
function_values flat lang f ts p = flat_map (λ vs. at_position p vs (given (lin_outcomes flat lang f (as_arguments vs))))
    (choices (argument_values p ts (arguments_of flat f)))

-- what a layer's values are, from those of its arguments
abbrev pub value_of_layer : Flat → List ℕ → Tree-F AtPosition → AtPosition
value_of_layer flat lang (Tree-F.App f ts) p C = function_values flat lang f ts p
value_of_layer flat lang (Tree-F.Int n) p C = literal_value integer (decimal n) p ∷ []
value_of_layer flat lang (Tree-F.Str w) p C = literal_value text w p ∷ []
value_of_layer flat lang (Tree-F.Hole n) p C = at_position p (hole_part n ∷ []) (given (hole_outcomes flat lang C))

-- the bracketed values of a tree at a position; the category is that of a tree that is one hole
abbrev pub bracketed_values : Flat → List ℕ → Tree → List ℕ → List ℕ → List BracketedValue
bracketed_values flat lang = fold-Tree AtPosition (value_of_layer flat lang)
