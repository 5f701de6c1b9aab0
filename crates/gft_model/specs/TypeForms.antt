-- Concrete types, terms and typed terms as typing makes them, form by form.
use Rattle.std.specs.Prelude.{◌++◌, ℕ, List, [], ◌∷◌, map, flat_map, Option, Some, None, bytes_eq, codes}
use Rattle.std.specs.Option.{option_to_list}
use Rattle.std.specs.Map.{keys_of, lookup}
use Rattle.gft_core.specs.declared.place.Place.{Place}
use Rattle.gft_syntax.specs.declared.bind.Bind.{Bind}
use Rattle.gft_syntax.specs.declared.bind.Bind.TheVariants.{Variable, Nothing}
use Rattle.gft_syntax.specs.declared.reference.Whole.{Whole}
use Rattle.gft_syntax.specs.declared.reference.Reference.TheVariants.{Written, Whole as WholeName}
use Rattle.gft_syntax.specs.Terms.{Layer}
use Rattle.gft_syntax.specs.declared.ctype.CType.{CType, roll-CType}
use Rattle.gft_syntax.specs.declared.ctype.CType.TheOpen as CType-F
use Rattle.gft_syntax.specs.declared.linear.LinTerm.{LinTerm, roll-LinTerm}
use Rattle.gft_syntax.specs.declared.linear.LinTerm.TheOpen as Lin-F
use Rattle.gft_syntax.specs.declared.linear.Predef.{Predef}
use Rattle.gft_syntax.specs.declared.linear.Predef.TheVariants.{Take, Drop, Tk, Dp}
use Rattle.gft_syntax.specs.declared.pattern.Pattern.{Pattern, roll-Pattern}
use Rattle.gft_syntax.specs.declared.pattern.Pattern.TheOpen as Pattern-F
use Rattle.gft_syntax.specs.declared.term.Term.{Term, out-Term, roll-Term}
use Rattle.gft_syntax.specs.declared.term.Term.TheOpen as Term-F
use Rattle.gft_syntax.specs.declared.term.Local.{Local}
use Rattle.gft_syntax.specs.declared.term.Local.TheVariants.{Value, Label, TypedValue}
use Rattle.gft_model.specs.Matching.{tuple_label, tuple_fields}
use Rattle.gft_model.specs.Values.{extended}

-- the type of strings
abbrev pub str_type : CType
str_type = roll-CType CType-F.Str

-- the type of the numbers from 0 to n
abbrev pub number_type : ℕ → CType
number_type n = roll-CType (CType-F.Ints n)

-- a record type, its labels put in order
abbrev pub record_type : List (List ℕ × CType) → CType
record_type fs = roll-CType (CType-F.Record (extended [] fs))

-- a table type: what it is over, then the type of its values
abbrev pub table_type : CType → CType → CType
table_type P V = roll-CType (CType-F.Table P V)

-- a function type
abbrev pub function_type : CType → CType → CType
function_type A B = roll-CType (CType-F.Fun A B)

-- the type of types
abbrev pub sort_type : CType
sort_type = roll-CType CType-F.TypeSort

-- the type of parameter types
abbrev pub sort_param : CType
sort_param = roll-CType CType-F.ParamSort

-- the function type with these parameters
abbrev pub functions : List CType → CType → CType
functions [] R = R
functions (A ∷ As) R = function_type A (functions As R)

-- x, y = e as x = e ; y = e
abbrev pub one_by_one : {A : Type 0} → Local A → List (Local A)
one_by_one (Value xs e) = map (λ x. Value (x ∷ []) e) xs
one_by_one (Label xs t) = map (λ x. Label (x ∷ []) t) xs
one_by_one (TypedValue xs t e) = map (λ x. TypedValue (x ∷ []) t e) xs

-- the form of a term without other spellings: a lambda or \\ of several variables is one in another, [C] is a name, []
-- the literal of no words, a | b is variants {a ; b}, each field has one label, and a tuple is the record of its items
abbrev pub plain_form : Layer → Layer
plain_form (Term-F.Fun (x ∷ y ∷ ys) e place) = Term-F.Fun (x ∷ []) (roll-Term (Term-F.Fun (y ∷ ys) e place)) place
plain_form (Term-F.TabFun (x ∷ y ∷ ys) e place) = Term-F.TabFun (x ∷ []) (roll-Term (Term-F.TabFun (y ∷ ys) e place)) place
plain_form (Term-F.ListCat (WholeName w) place) = Term-F.Var (WholeName w) place
plain_form (Term-F.Empty place) = Term-F.Lit [] place
plain_form (Term-F.Alt a b place) = Term-F.Variants (a ∷ b ∷ []) place
plain_form (Term-F.Fields ls place) = Term-F.Fields (flat_map one_by_one ls) place
plain_form (Term-F.Tuple es place) = Term-F.Fields (map (λ f. Value (f.0 ∷ []) f.1) (tuple_fields es)) place
plain_form d = d

-- how typing sees a term
unfoldable pub form : Term → Layer
form e = plain_form (out-Term e)

-- typed terms, by their layers
abbrev pub made : Lin-F.LinTerm-F LinTerm → LinTerm
made = roll-LinTerm

-- the empty record: what a type is as a value
abbrev pub no_value : LinTerm
no_value = made (Lin-F.Record [])

-- a variable that a bind binds
abbrev pub bound : Bind → Option (List ℕ)
bound (Variable x place) = Some x
bound (Nothing place) = None

-- what is bound, before the rest
abbrev pub with_bound : {A : Type 0} → Bind → A → List (List ℕ × A) → List (List ℕ × A)
with_bound x a Γ = map (λ y. (y, a)) (option_to_list (bound x)) ++ Γ

-- the pattern that binds it
abbrev pub bound_pattern : Bind → Pattern
bound_pattern (Variable x place) = roll-Pattern (Pattern-F.Name (Written x) place)
bound_pattern (Nothing place) = roll-Pattern (Pattern-F.Any place)

-- a function of the variables in turn
abbrev pub lambdas : List (List ℕ) → LinTerm → LinTerm
lambdas [] t = t
lambdas (x ∷ xs) t = made (Lin-F.Lambda (Some x) (lambdas xs t))

-- a constructor as a function of its arguments; the labels of a tuple serve as its variables
abbrev pub constructor_term : List CType → Whole → LinTerm
constructor_term Ts w = let xs = keys_of (tuple_fields Ts) in lambdas xs (made (Lin-F.Con w (map (λ x. made (Lin-F.Var x)) xs)))

-- the greatest number
abbrev pub greatest : ℕ
greatest = 340282366920938463463374607431768211455

-- the type of take, drop, tk and dp
abbrev pub predef_type : CType
predef_type = functions (number_type greatest ∷ str_type ∷ []) str_type

-- such a function; where it is stuck it stands at its name
abbrev pub predef_term : Predef → Place → LinTerm
predef_term p place =
    let n = tuple_label 0 in
    let s = tuple_label 1 in
    lambdas (n ∷ s ∷ []) (made (Lin-F.Predef p (made (Lin-F.Var n)) (made (Lin-F.Var s)) place))

-- the names of these functions
abbrev pub predef_named : List ℕ → Option Predef
predef_named x = lookup (bytes_eq x) ((codes "take", Take) ∷ (codes "drop", Drop) ∷ (codes "tk", Tk) ∷ (codes "dp", Dp) ∷ [])
