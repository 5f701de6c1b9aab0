-- A worked example of a fault of types: a table over N = One | Two that leaves out Two, at 3:23 of ExhEng.gf.
use Rattle.std.proofs.Common.{zero, suc, ◌≡◌, ap, refl, ℕ, List, [], ◌∷◌, None, Some, subst, inl, inr, arith}
use Rattle.std.specs.Prelude.{codes, slice_get, Bool, true, false}
use Rattle.gft_core.specs.declared.place.Place.{Place}
use Rattle.gft_rules.specs.declared.rule.Rule.TheVariants as R
use Rattle.gft_syntax.specs.declared.ctype.CType.{CType, out-CType, roll-CType}
use Rattle.gft_syntax.specs.declared.ctype.CType.TheOpen as C
use Rattle.gft_syntax.specs.declared.ctype.CType.TheFolds.{fold-roll-CType, para-roll-CType}
use Rattle.gft_syntax.specs.declared.ctype.CType.TheViews.{out-roll-CType}
use Rattle.gft_syntax.specs.declared.flat.Flat.{Flat}
use Rattle.gft_syntax.specs.declared.judgement.Alternative.{Alternative}
use Rattle.gft_syntax.specs.declared.judgement.Constructor.{Constructor}
use Rattle.gft_syntax.specs.declared.judgement.Definition.TheVariants as D
use Rattle.gft_syntax.specs.declared.judgement.Judgement.{Judgement}
use Rattle.gft_syntax.specs.declared.judgement.Judgement.TheVariants as J
use Rattle.gft_syntax.specs.declared.linear.LinTerm.{LinTerm}
use Rattle.gft_syntax.specs.declared.linear.LinTerm.TheOpen as L
use Rattle.gft_syntax.specs.declared.pattern.Pattern.{Pattern, roll-Pattern}
use Rattle.gft_syntax.specs.declared.pattern.Pattern.TheOpen as P
use Rattle.gft_syntax.specs.declared.reference.PlacedName.{PlacedName}
use Rattle.gft_syntax.specs.declared.reference.Reference.TheVariants.{Whole as WholeName}
use Rattle.gft_syntax.specs.declared.reference.Whole.{Whole}
use Rattle.gft_syntax.specs.declared.term.Case.{Case}
use Rattle.gft_syntax.specs.declared.term.Sort.TheVariants as Sort-V
use Rattle.gft_syntax.specs.declared.term.Term.{Term, roll-Term}
use Rattle.gft_syntax.specs.declared.term.Term.TheOpen as T
use Rattle.gft_syntax.specs.declared.term.Term.TheViews.{out-roll-Term}
use Rattle.gft_syntax.specs.declared.value.Param.{Param}
use Rattle.gft_syntax.specs.declared.value.Param.TheViews.{out-roll-Param}
use Rattle.gft_syntax.specs.declared.value.Param.TheFolds.{fold-roll-Param}
use Rattle.gft_model.specs.ConcreteTypes.{count_of, values_of, table_in}
use Rattle.gft_model.specs.ConcreteTyping.{IsData, Checks, Suits, suits_by, takes_none, found, overloaded as of_overload, at_head, none_found, same, passes, type_of_types, IsType, IsParameter, IsDomain, text_type, table_over, parameters_named, parameter_of, no_constructor, constructor, no_argument, oper_named, function_from}
use Rattle.gft_model.specs.Items.{items_of}
use Rattle.gft_model.specs.JudgementTyping.{IsSort}
use Rattle.gft_model.specs.Refusals.{refusal}
use Rattle.gft_model.specs.TypeFaults
use Rattle.gft_model.specs.TypeTexts.{Written, param_step, param_text}
use Rattle.gft_syntax.specs.Terms.{place_of, layer_place}
use Rattle.gft_model.specs.TypeForms.{form, str_type, sort_type, table_type, function_type, made}
use Rattle.gft_model.specs.WrittenTypes.{takes_data, takes_data_step}
use Rattle.gft_model.specs.TypingSites
use Rattle.gft_model.specs.ValueForms.{con_param}
use Rattle.gft_model.proofs.Computing.{form-roll, match-roll}

abbrev here : ℕ → ℕ → Place
here line col = record { file = 0; line = line; col = col }

abbrev whole : List ℕ → Whole
whole x = record { «module» = codes "ExhEng"; name = x }

abbrev named : List ℕ → PlacedName
named x = record { name = x; place = here 2 3 }

-- param N = One | Two
abbrev a_constructor : List ℕ → Constructor
a_constructor x = record { name = named x; arguments = [] }

abbrev constructors : List Constructor
constructors = a_constructor (codes "One") ∷ a_constructor (codes "Two") ∷ []

abbrev number : CType
number = roll-CType (C.Param (whole (codes "N")) ((whole (codes "One"), []) ∷ (whole (codes "Two"), []) ∷ []))

-- N => Str, and table {One => "x"}
abbrev n_term : Term
n_term = roll-Term (T.Var (WholeName (whole (codes "N"))) (here 3 12))

abbrev str_term : Term
str_term = roll-Term (T.Sort Sort-V.Str (here 3 17))

abbrev type_term : Term
type_term = roll-Term (T.TabType n_term str_term (here 3 12))

abbrev one_pattern : Pattern
one_pattern = roll-Pattern (P.Name (WholeName (whole (codes "One"))) (here 3 30))

abbrev branches : List (Case Term)
branches = record { pattern = one_pattern; body = roll-Term (T.Lit (codes "x") (here 3 37)) } ∷ []

abbrev table_term : Term
table_term = roll-Term (T.TableOf None branches (here 3 23))

-- oper t : N => Str = table {One => "x"}
abbrev oper_t : Judgement
oper_t = J.OperTyped (named (codes "t") ∷ []) type_term (D.Term table_term)

abbrev exh : Flat
exh = record {
  name = None;
  start = None;
  cats = [];
  funs = [];
  params = record { whole = whole (codes "N"); judgement = J.Param (named (codes "N")) constructors } ∷ [];
  opers = record { whole = whole (codes "t"); judgement = oper_t } ∷ [];
  concretes = [];
  typed = [];
}

is_parameter : IsParameter (items_of exh) (whole (codes "N")) number
is_parameter = parameter_of refl (constructor no_argument (constructor no_argument no_constructor)) (out-roll-CType _)

two_values : count_of number ≡ 2
two_values = simp fold-roll-CType

few : IsDomain number
few = (simp fold-roll-CType, omega (arith, two_values))

is_type : IsType (items_of exh) type_term (table_type number str_type)
is_type =
    table_over (form-roll _) (parameters_named (form-roll _) is_parameter few.1) few (text_type (form-roll _))
    (λ A B e. let k = out-roll-CType C.Str in cc)

no_sort : ¬ (IsSort (table_type number str_type))
no_sort (inl e) = let h = out-roll-CType (C.Table number str_type) in let k = out-roll-CType C.TypeSort in cc
no_sort (inr e) = let h = out-roll-CType (C.Table number str_type) in let k = out-roll-CType C.ParamSort in cc

stands : TypingSites.StandsIn exh (TypingSites.judgement_sites [] (codes "t") oper_t) (2 ∷ []) [] (TypingSites.a_term table_term)
    (TypingSites.given (table_type number str_type)) TypingSites.any_role
stands = TypingSites.at_site 1 refl (TypingSites.to_term is_type no_sort)

one : Param
one = con_param (whole (codes "One")) []

two : Param
two = con_param (whole (codes "Two")) []

leaves_two : TypeFaults.left_out (form table_term) (values_of number) ≡ Some two
unfolding one two
leaves_two = simp (form-roll, fold-roll-CType, match-roll, out-roll-Param)

found_there : TypeFaults.BreaksTypes exh [] (whole (codes "t")) oper_t (2 ∷ []) (refusal R.NotExhaustive (place_of table_term) (param_text two ∷ []))
found_there =
    TypeFaults.in_sites (TypeFaults.at_term stands
    (TypeFaults.value_left_out (TypeFaults.over_given (form-roll _) refl (ap table_in (out-roll-CType _))) few leaves_two))

place_of_table : place_of table_term ≡ here 3 23
place_of_table = ap layer_place (out-roll-Term _)

text_of_two : param_text two ≡ codes "Two"
unfolding two
text_of_two = ap (λ (w : Written). w.text) (fold-roll-Param Written param_step _)

pub two_is_left_out : TypeFaults.BreaksTypes exh [] (whole (codes "t")) oper_t (2 ∷ []) (refusal R.NotExhaustive (here 3 23) (codes "Two" ∷ []))
two_is_left_out =
    subst (λ p. TypeFaults.BreaksTypes exh [] (whole (codes "t")) oper_t (2 ∷ []) (refusal R.NotExhaustive p (codes "Two" ∷ []))) place_of_table
    (subst (λ x. TypeFaults.BreaksTypes exh [] (whole (codes "t")) oper_t (2 ∷ []) (refusal R.NotExhaustive (place_of table_term) (x ∷ []))) text_of_two found_there)

-- table {} ! "a": a table without a branch that is selected from, of which no type is found
abbrev empty_table : Term
empty_table = roll-Term (T.TableOf None [] (here 4 11))

pub no_branch_to_find : TypeFaults.BreaksTerm exh [] empty_table (TypingSites.over str_type) TypingSites.selected [] R.NoType []
no_branch_to_find = TypeFaults.no_branch_over (form-roll _) refl

-- oper f = overload {f : Type = Str} ; x : f: that oper is a Type and names none
abbrev type_term_alone : Term
type_term_alone = roll-Term (T.Sort Sort-V.TypeSort (here 2 23))

abbrev f_alone : Alternative
f_alone = record { names = codes "f" ∷ []; of_type = type_term_alone; value = str_term }

abbrev f_term : Term
f_term = roll-Term (T.Var (WholeName (whole (codes "f"))) (here 3 13))

abbrev oper_x : Judgement
oper_x = J.OperType (named (codes "x") ∷ []) f_term

abbrev overloaded : Flat
overloaded = record exh {
  params = [];
  opers = record { whole = whole (codes "f"); judgement = J.Oper (named (codes "f") ∷ []) [] (D.Overload (f_alone ∷ [])) }
      ∷ record { whole = whole (codes "x"); judgement = oper_x } ∷ [];
}

sort_is_data : IsData sort_type
sort_is_data A B e = let k = out-roll-CType C.TypeSort in cc

only_one : (j : ℕ) (S : CType) (u : LinTerm) → Suits (items_of overloaded) (whole (codes "f")) [] [] j S u → j ≡ 0
only_one zero S u s = refl
only_one (suc zero) S u (suits_by a b c) = cc
only_one (suc (suc j)) S u (suits_by a b c) = cc

f_is_a_type : Checks (items_of overloaded) [] f_term sort_type (made (L.Oper 0))
f_is_a_type = found (ap (λ d. passes d (out-CType sort_type)) (form-roll _))
    (of_overload 0 (at_head (λ f a p e. let k = form-roll (T.Var (WholeName (whole (codes "f"))) (here 3 13)) in cc)) (form-roll _) refl none_found
    (record { suits = suits_by refl (type_of_types (form-roll _)) (takes_none sort_is_data); alone = only_one })) same

found_no_type : TypeFaults.BreaksTypes overloaded [] (whole (codes "x")) oper_x (1 ∷ []) (refusal R.Unknown (place_of f_term) (codes "f" ∷ []))
found_no_type = TypeFaults.in_sites (TypeFaults.at_type (TypingSites.at_site 0 refl TypingSites.to_mode)
    (TypeFaults.overload_is_no_type (form-roll _) refl f_is_a_type))

pub overload_names_no_type : TypeFaults.BreaksTypes overloaded [] (whole (codes "x")) oper_x (1 ∷ []) (refusal R.Unknown (here 3 13) (codes "f" ∷ []))
overload_names_no_type =
    subst (λ p. TypeFaults.BreaksTypes overloaded [] (whole (codes "x")) oper_x (1 ∷ []) (refusal R.Unknown p (codes "f" ∷ [])))
    (ap layer_place (out-roll-Term _)) found_no_type

-- oper F : Type = (Str -> Str) -> Str ; f : F -> Str: the name F hides that a parameter takes functions
abbrev arrow : Term → Term → Term
arrow a b = roll-Term (T.Arrow [] a b (here 2 19))

abbrev hiding_name : Term
hiding_name = roll-Term (T.Var (WholeName (whole (codes "F"))) (here 3 13))

abbrev oper_f : Judgement
oper_f = J.OperType (named (codes "f") ∷ []) (arrow hiding_name str_term)

abbrev hiding : Flat
hiding = record exh {
  params = [];
  opers = record {
    whole = whole (codes "F");
    judgement = J.OperTyped (named (codes "F") ∷ []) type_term_alone (D.Term (arrow (arrow str_term str_term) str_term));
  } ∷ record { whole = whole (codes "f"); judgement = oper_f } ∷ [];
}

abbrev from_str : CType
from_str = function_type str_type str_type

str_takes_data : takes_data str_type ≡ true
str_takes_data = para-roll-CType Bool takes_data_step C.Str

from_str_takes_data : takes_data from_str ≡ true
from_str_takes_data = simp (para-roll-CType, out-roll-CType)

hidden_type : IsType (items_of hiding) hiding_name (function_type from_str str_type)
hidden_type = oper_named 0 (form-roll _) refl (type_of_types (form-roll _)) (inl refl)
    (function_from (form-roll _) (function_from (form-roll _) (text_type (form-roll _)) str_takes_data (text_type (form-roll _)))
    from_str_takes_data (text_type (form-roll _)))

takes_function : takes_data (function_type from_str str_type) ≡ false
takes_function = simp (para-roll-CType, out-roll-CType)

stands_as_parameter : TypingSites.StandsIn hiding (TypingSites.judgement_sites [] (codes "f") oper_f) (1 ∷ 1 ∷ []) []
    (TypingSites.a_term hiding_name) (TypingSites.as_type sort_type) TypingSites.parameter_wanted
stands_as_parameter = TypingSites.within_it 0 (TypingSites.at_site 0 refl TypingSites.to_mode)
    (ap (λ d. slice_get (TypingSites.term_sites d (TypingSites.given sort_type) TypingSites.any_role) 0) (form-roll _)) TypingSites.to_mode

pub function_is_hidden : TypeFaults.BreaksTypes hiding [] (whole (codes "f")) oper_f (1 ∷ 1 ∷ []) (refusal R.FunctionHere (place_of hiding_name) [])
function_is_hidden = TypeFaults.in_sites (TypeFaults.at_term stands_as_parameter
    (TypeFaults.parameter_takes_function refl hidden_type takes_function
    (λ xs a b p e. let k = form-roll (T.Var (WholeName (whole (codes "F"))) (here 3 13)) in cc)))

-- oper f = overload {} : f alone takes no alternative
abbrev no_alternatives : Flat
no_alternatives = record exh {
  params = [];
  opers = record { whole = whole (codes "f"); judgement = J.Oper (named (codes "f") ∷ []) [] (D.Overload []) } ∷ [];
}

pub no_alternative_to_take : TypeFaults.BreaksTerm no_alternatives [] f_term TypingSites.found TypingSites.any_role [] R.NoOverload (codes "f" ∷ [])
no_alternative_to_take = TypeFaults.no_alternative (λ e. cc)
    (TypingSites.has_overload (at_head (λ f a p e. let k = form-roll (T.Var (WholeName (whole (codes "f"))) (here 3 13)) in cc)) (form-roll _) (inr refl))
    none_found (λ k B u s. nothing_suits s)
  where
    nothing_suits : {k : ℕ} {B : CType} {u : LinTerm} → Suits (items_of no_alternatives) (whole (codes "f")) [] [] k B u → ⊥
    nothing_suits (suits_by a b c) = cc
