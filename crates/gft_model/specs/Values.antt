-- Values: what their parts are, and how they are compared, extended and cut.
use Rattle.std.specs.Prelude.{ℕ, ◌-◌, List, [], ◌∷◌, ◌++◌, map, take, drop, length, Bool, true, false, ◌&&◌, ◌==◌, Option, Some, None, bytes_eq, option_map, option_and_then}
use Rattle.std.specs.Cmp.Lexicographic.{slice_cmp}
use Rattle.std.specs.Ordering.{nat_cmp}
use Rattle.std.specs.FinMap.{put}
use Rattle.std.specs.List.{filter_map, flat_map, zip}
use Rattle.std.specs.Map.{keys_of, lookup}
use Rattle.std.specs.Option.{option_map_or}
use Rattle.gft_core.specs.declared.symbol.Sym.{Sym}
use Rattle.gft_syntax.specs.declared.ctype.CType.{CType}
use Rattle.gft_syntax.specs.declared.ctype.CType.TheOpen.{CType-F}
use Rattle.gft_syntax.specs.declared.ctype.CType.TheFolds.{fold-CType}
use Rattle.gft_syntax.specs.declared.linear.Predef.{Predef}
use Rattle.gft_syntax.specs.declared.linear.Predef.TheVariants as Predef-V
use Rattle.gft_syntax.specs.declared.value.Param.{Param, out-Param}
use Rattle.gft_syntax.specs.declared.value.Param.TheOpen.{Param-F}
use Rattle.gft_syntax.specs.declared.value.Param.TheFolds.{fold-Param}
use Rattle.gft_syntax.specs.declared.value.Value.{Value, out-Value}
use Rattle.gft_syntax.specs.declared.value.Value.TheOpen.{Value-F}
use Rattle.gft_syntax.specs.declared.value.Value.TheFolds.{fold-Value}
use Rattle.gft_model.specs.ConcreteTypes.{field_of}
use Rattle.gft_model.specs.Matching.{same_whole}
use Rattle.gft_model.specs.ValueForms.{record_param, record_value, table_value}

-- the string that a layer is, the fields of a record, the entries of a table
abbrev pub string_in : {A : Type 0} → Value-F A → Option (List Sym)
string_in (Value-F.Str ss) = Some ss
string_in d = None

abbrev pub fields_in : {A : Type 0} → Value-F A → Option (List (List ℕ × A))
fields_in (Value-F.Record fs) = Some fs
fields_in d = None

abbrev pub entries_in : {A : Type 0} → Value-F A → Option (List (Param × A))
entries_in (Value-F.Table es) = Some es
entries_in d = None

-- what is made of the strings and the parameters of a layer, in order
abbrev pub leaves_step : {A : Type 0} → (List Sym → List A) → (Param → List A) → Value-F (List A) → List A
leaves_step of_string of_parameter (Value-F.Str ss) = of_string ss
leaves_step of_string of_parameter (Value-F.Param v) = of_parameter v
leaves_step of_string of_parameter (Value-F.Record fs) = flat_map (λ f. f.1) fs
leaves_step of_string of_parameter (Value-F.Table es) = flat_map (λ e. e.1) es

-- the string leaves of a value, in order
abbrev pub string_leaves : Value → List (List Sym)
string_leaves = fold-Value (List (List Sym)) (leaves_step (λ ss. ss ∷ []) (λ v. []))

-- the case of a value: its parameters, in order
abbrev pub case_of : Value → List Param
case_of = fold-Value (List Param) (leaves_step (λ ss. []) (λ v. v ∷ []))

-- all of them, where each is there
abbrev pub all_there : {A : Type 0} → List (Option A) → Option (List A)
all_there [] = Some []
all_there (o ∷ os) = option_and_then (λ a. option_map (λ rest. a ∷ rest) (all_there os)) o

-- the parameter that a value is: records of parameters are parameters too
abbrev pub param_step : Value-F (Option Param) → Option Param
param_step (Value-F.Param v) = Some v
param_step (Value-F.Record fs) = option_map (λ vs. record_param (zip (keys_of fs) vs)) (all_there (map (λ f. f.1) fs))
param_step d = None

abbrev pub param_of : Value → Option Param
param_of = fold-Value (Option Param) param_step

-- each test on its own item
abbrev pub each_same : {A : Type 0} → List (A → Bool) → List A → Bool
each_same [] [] = true
each_same (f ∷ fs) (v ∷ vs) = f v && each_same fs vs
each_same fs vs = false

-- two parameter values are the same
abbrev pub same_step : Param-F (Param → Bool) → Param-F Param → Bool
same_step (Param-F.Con w fs) (Param-F.Con c vs) = same_whole w c && each_same fs vs
same_step (Param-F.Ints m) (Param-F.Ints n) = m == n
same_step (Param-F.Record fs) (Param-F.Record vs) = each_same (map (λ f. λ v. bytes_eq f.0 v.0 && f.1 v.1) fs) vs
same_step d v = false

abbrev pub same_param : Param → Param → Bool
same_param = fold-Param (Param → Bool) (λ d v. same_step d (out-Param v))

-- what stands at a parameter value
abbrev pub entry_at : {A : Type 0} → Param → List (Param × A) → Option A
entry_at v es = lookup (same_param v) es

-- the fields of both in order of their labels, those of the second where a label is in both
abbrev pub extended : {A : Type 0} → List (List ℕ × A) → List (List ℕ × A) → List (List ℕ × A)
extended fs [] = fs
extended fs (g ∷ gs) = extended (put (slice_cmp nat_cmp) g.0 g.1 fs) gs

-- the first n, what is after them, what is before the last n, the last n
abbrev pub part : {A : Type 0} → Predef → ℕ → List A → List A
part Predef-V.Take n cs = take n cs
part Predef-V.Drop n cs = drop n cs
part Predef-V.Tk n cs = take (length cs - n) cs
part Predef-V.Dp n cs = drop (length cs - n) cs

-- the last word of the left and the first of the right made one; an empty side gives the other
abbrev pub glued : List (List ℕ) → List (List ℕ) → List (List ℕ)
glued [] vs = vs
glued (u ∷ []) [] = u ∷ []
glued (u ∷ []) (v ∷ vs) = (u ++ v) ∷ vs
glued (u ∷ w ∷ us) vs = u ∷ glued (w ∷ us) vs

-- what cutting to a layer does: a record keeps the fields of the labels, and each field and cell is cut
abbrev pub cut_step : CType-F (Value → Value) → Value → Value
cut_step (CType-F.Record gs) v = option_map_or
    (λ fs. record_value (filter_map (λ g. option_map (λ u. (g.0, g.1 u)) (field_of g.0 fs)) gs)) (fields_in (out-Value v)) v
cut_step (CType-F.Table P f) v =
    option_map_or (λ es. table_value (map (λ e. (e.0, f e.1)) es)) (entries_in (out-Value v)) v
cut_step d v = v

-- a value cut to the labels of a type
abbrev pub cut_value : CType → Value → Value
cut_value = fold-CType (Value → Value) cut_step
