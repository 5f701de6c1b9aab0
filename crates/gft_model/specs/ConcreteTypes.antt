-- Concrete types: their values in order, their cells and cases, and which is a subtype of which.
use Rattle.std.specs.Prelude.{◌≡◌, ℕ, ◌+◌, ◌*◌, List, [], ◌∷◌, map, Bool, true, false, not, ◌≤◌, Option, Some, None, bytes_eq}
use Rattle.std.specs.List.{filter, flat_map, list_all, range_with_len, zip}
use Rattle.std.specs.Map.{keys_of, lookup}
use Rattle.std.specs.Option.{is_some, option_to_list}
use Rattle.gft_syntax.specs.declared.ctype.CType.{CType, out-CType}
use Rattle.gft_syntax.specs.declared.ctype.CType.TheOpen.{CType-F}
use Rattle.gft_syntax.specs.declared.ctype.CType.TheFolds.{fold-CType, map-CType, para-CType}
use Rattle.gft_syntax.specs.declared.value.Param.{Param}
use Rattle.gft_syntax.specs.declared.value.PathStep.{PathStep}
use Rattle.gft_syntax.specs.declared.value.PathStep.TheVariants.{Label, Cell}
use Rattle.gft_model.specs.ValueForms.{con_param, number_param, record_param}

-- the numbers from 0 to n
abbrev pub upto : ℕ → List ℕ
upto n = range_with_len 0 (n + 1)

-- one of each list, the choice from the first list counting most
abbrev pub choices : {A : Type 0} → List (List A) → List (List A)
choices [] = [] ∷ []
choices (xs ∷ xss) = flat_map (λ x. map (λ rest. x ∷ rest) (choices xss)) xs

-- what a layer's values are, from those of its parts
abbrev pub values_step : CType-F (List Param) → List Param
values_step (CType-F.Param w cs) = flat_map (λ c. map (con_param c.0) (choices c.1)) cs
values_step (CType-F.Ints n) = map number_param (upto n)
values_step (CType-F.Record fs) = map (λ vs. record_param (zip (keys_of fs) vs)) (choices (map (λ f. f.1) fs))
values_step d = []

-- the values of a finite type in order: by constructor, then by arguments from left to right;
-- records by their labels
abbrev pub values_of : CType → List Param
values_of = fold-CType (List Param) values_step

-- whether a layer's type is finite, from whether its parts are
abbrev pub finite_step : CType-F Bool → Bool
finite_step (CType-F.Param w cs) = list_all (λ c. list_all (λ b. b) c.1) cs
finite_step (CType-F.Ints n) = true
finite_step (CType-F.Record fs) = list_all (λ f. f.1) fs
finite_step d = false

-- a type that tables may be over: a parameter type, Ints n, or a record type of such types
abbrev pub is_finite : CType → Bool
is_finite = fold-CType Bool finite_step

-- the sum of a list
abbrev pub sum_of : List ℕ → ℕ
sum_of [] = 0
sum_of (n ∷ ns) = n + sum_of ns

-- the product of a list
abbrev pub product_of : List ℕ → ℕ
product_of [] = 1
product_of (n ∷ ns) = n * product_of ns

-- how many values a layer's type has, from how many its parts have
abbrev pub count_step : CType-F ℕ → ℕ
count_step (CType-F.Param w cs) = sum_of (map (λ c. product_of c.1) cs)
count_step (CType-F.Ints n) = n + 1
count_step (CType-F.Record fs) = product_of (map (λ f. f.1) fs)
count_step d = 0

-- how many values a finite type has
abbrev pub count_of : CType → ℕ
count_of = fold-CType ℕ count_step

-- a leaf of a type, with the way to it: a string, or a parameter, whose values it has in order
pub record Leaf : Type 0 where
  pub steps : List PathStep
  pub values : Option (List Param)

-- a step before the way
abbrev pub below : PathStep → Leaf → Leaf
below step c = record { steps = step ∷ c.steps; values = c.values }

-- the values of a layer's type, its parts given beside what is made of them
abbrev pub layer_values : {A : Type 0} → CType-F (CType × A) → List Param
layer_values {A} d = values_step (map-CType (CType × A) (List Param) (λ p. values_of p.0) d)

-- one leaf, at the type itself
abbrev pub one_leaf : Option (List Param) → List Leaf
one_leaf vs = record { steps = []; values = vs } ∷ []

-- the leaves of a layer's type, from those of its parts
abbrev pub leaves_step : CType-F (CType × List Leaf) → List Leaf
leaves_step CType-F.Str = one_leaf None
leaves_step (CType-F.Param w cs) = one_leaf (Some (layer_values (CType-F.Param w cs)))
leaves_step (CType-F.Ints n) = one_leaf (Some (map number_param (upto n)))
leaves_step (CType-F.Record fs) = flat_map (λ f. map (below (Label f.0)) f.1.1) fs
leaves_step (CType-F.Table P V) = flat_map (λ v. map (below (Cell v)) V.1) (values_of P.0)
leaves_step d = []

-- the cells of a type: its leaves, labels in byte order, tables in the order of their values
abbrev pub cells_of_type : CType → List Leaf
cells_of_type = para-CType (List Leaf) leaves_step

-- the values of a leaf that is a parameter
abbrev pub leaf_values : Leaf → List (List Param)
leaf_values c = option_to_list c.values

-- the cases of a type in order: one value for each parameter cell, the first cell counting most
abbrev pub cases_of : CType → List (List Param)
cases_of T = choices (flat_map leaf_values (cells_of_type T))

-- the ways to the string cells of a type, in order
abbrev pub string_cells : CType → List (List PathStep)
string_cells T = map (λ c. c.steps) (filter (λ c. not (is_some c.values)) (cells_of_type T))

-- a field of a record or of a record type: the first with that label
abbrev pub field_of : {A : Type 0} → List ℕ → List (List ℕ × A) → Option A
field_of l fs = lookup (bytes_eq l) fs

-- the fields of a record type, the sides of a table type, and those of a function type
abbrev pub record_in : CType-F CType → Option (List (List ℕ × CType))
record_in (CType-F.Record fs) = Some fs
record_in T = None

abbrev pub table_in : CType-F CType → Option (CType × CType)
table_in (CType-F.Table P V) = Some (P, V)
table_in T = None

abbrev pub function_in : CType-F CType → Option (CType × CType)
function_in (CType-F.Fun A B) = Some (A, B)
function_in T = None

mutual
  -- S is a subtype of T
  pub data IsSubtype : CType → CType → Type 0 where
    equal : {S : _} → IsSubtype S S
    fewer_labels : {S T fs gs : _} → out-CType S ≡ CType-F.Record fs → out-CType T ≡ CType-F.Record gs → HasLabels fs gs →
        IsSubtype S T
    tables : {S T P V W : _} → out-CType S ≡ CType-F.Table P V → out-CType T ≡ CType-F.Table P W → IsSubtype V W → IsSubtype S T
    numbers : {S T m n : _} → out-CType S ≡ CType-F.Ints m → out-CType T ≡ CType-F.Ints n → m ≤ n → IsSubtype S T
    functions : {S T A B C D : _} → out-CType S ≡ CType-F.Fun A B → out-CType T ≡ CType-F.Fun C D → IsSubtype C A →
        IsSubtype B D → IsSubtype S T

  -- the fields have each label of the others, at a subtype
  pub data HasLabels : List (List ℕ × CType) → List (List ℕ × CType) → Type 0 where
    no_label : {fs : _} → HasLabels fs []
    label : {fs gs l S T : _} → field_of l fs ≡ Some S → IsSubtype S T → HasLabels fs gs → HasLabels fs ((l, T) ∷ gs)
