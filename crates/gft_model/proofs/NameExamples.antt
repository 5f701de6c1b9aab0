-- Worked examples of names that mean types: what fits PType, and [C].
use Rattle.std.proofs.Common.{◌≡◌, refl, ap, ◌∙◌, ℕ, List, [], ◌∷◌, Some, None, inl, inr, arith}
use Rattle.std.specs.Prelude.{codes}
use Rattle.gft_core.specs.declared.place.Place.{Place}
use Rattle.gft_syntax.specs.declared.ctype.CType.{CType, out-CType, roll-CType}
use Rattle.gft_syntax.specs.declared.ctype.CType.TheOpen as C
use Rattle.gft_syntax.specs.declared.ctype.CType.TheViews.{out-roll-CType}
use Rattle.gft_syntax.specs.declared.ctype.CType.TheFolds.{fold-roll-CType}
use Rattle.gft_syntax.specs.declared.judgement.Constructor.{Constructor}
use Rattle.gft_syntax.specs.declared.linear.LinTerm.{LinTerm}
use Rattle.gft_syntax.specs.declared.linear.LinTerm.TheOpen as L
use Rattle.gft_syntax.specs.declared.reference.Reference.TheVariants.{Whole as WholeName}
use Rattle.gft_syntax.specs.declared.reference.Whole.{Whole}
use Rattle.gft_syntax.specs.declared.term.Sort.TheVariants as Sort
use Rattle.gft_syntax.specs.declared.term.Term.{Term, roll-Term}
use Rattle.gft_syntax.specs.declared.term.Term.TheOpen as F
use Rattle.gft_model.specs.ConcreteTypes.{count_of}
use Rattle.gft_model.specs.ConcreteTyping.{IsType, IsParameter, parameter_of, constructor, no_constructor, no_argument, parameters_named, definition_named, its_name, of_oper, some_numbers, Finds, Checks, found, type_form, is_term_first, parameter_name, untyped_oper, parameter_given}
use Rattle.gft_model.specs.Items.{Item, parameter_type, oper}
use Rattle.gft_model.specs.TypeForms.{sort_type, sort_param, made, no_value}
use Rattle.gft_model.proofs.Computing.{form-roll}
use Rattle.gft_model.proofs.FoundTypes.{find-once, check_form_is, same-tag, apart-tags, no-fit}

abbrev nowhere : Place
nowhere = record { file = 0; line = 1; col = 1 }

abbrev whole : List ℕ → Whole
whole x = record { «module» = codes "M"; name = x }

abbrev a_constructor : List ℕ → Constructor
a_constructor x = record { name = record { name = x; place = nowhere }; arguments = [] }

abbrev name : List ℕ → Term
name x = roll-Term (F.Var (WholeName (whole x)) nowhere)

-- param ListC = A | B ; oper Q = ListC
abbrev both : List Item
both = parameter_type (whole (codes "ListC")) (a_constructor (codes "A") ∷ a_constructor (codes "B") ∷ []) ∷ oper (whole (codes "Q")) None (Some (name (codes "ListC"))) ∷ []

abbrev the_type : CType
the_type = roll-CType (C.Param (whole (codes "ListC")) ((whole (codes "A"), []) ∷ (whole (codes "B"), []) ∷ []))

is_parameter : IsParameter both (whole (codes "ListC")) the_type
is_parameter = parameter_of refl (constructor no_argument (constructor no_argument no_constructor)) (out-roll-CType _)

two_values : count_of the_type ≡ 2
two_values = simp fold-roll-CType

-- [C] is the name ListC, which is the parameter type
pub list_is_name : IsType both (roll-Term (F.ListCat (WholeName (whole (codes "ListC"))) nowhere)) the_type
list_is_name = parameters_named (form-roll _) is_parameter (omega (arith, two_values))

-- Q is that type too, and fits PType
q_is : IsType both (name (codes "Q")) the_type
q_is = definition_named 1 (form-roll _) refl (λ p h. let k = form-roll (F.Var (WholeName (whole (codes "ListC"))) nowhere) in cc)
    (parameters_named (form-roll _) is_parameter (omega (arith, two_values)))

pub q_fits : Checks both [] (name (codes "Q")) sort_param (made (L.Oper 1))
q_fits = parameter_given (form-roll _) (untyped_oper 1 (form-roll _) refl (parameter_name (form-roll _) is_parameter)) (of_oper q_is (out-roll-CType _))

-- so does ListC, however many values it has
pub list_fits : Checks both [] (name (codes "ListC")) sort_param no_value
list_fits = parameter_given (form-roll _) (parameter_name (form-roll _) is_parameter) (its_name is_parameter)

-- Ints 3 is a type and does not fit PType
abbrev ints_three : Term
ints_three = roll-Term (F.App (roll-Term (F.Sort Sort.Ints nowhere)) (roll-Term (F.Num 3 nowhere)) nowhere)

ints_found : Finds both [] ints_three sort_type no_value
ints_found = type_form (ap is_term_first (form-roll _)) (some_numbers (form-roll _) (form-roll _) (form-roll _))

pub ints_do_not_fit : {T : CType} {t : LinTerm} → Checks both [] ints_three T t → T ≡ sort_param → ⊥
ints_do_not_fit (found a b c) h =
    let i = find-once both b ints_found refl refl in
    no-fit c (ap out-CType i.0 ∙ out-roll-CType C.TypeSort, ap out-CType h ∙ out-roll-CType C.ParamSort)
ints_do_not_fit d h = absurd (apart-tags _ _ refl (same-tag (form-roll _) refl (check_form_is both d)))
