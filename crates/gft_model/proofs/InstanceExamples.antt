-- Worked examples of what an instance gives for what its interface declares, and of the order in which that is typed.
use Rattle.std.proofs.Common.{◌≡◌, refl, sym, subst, ℕ, List, [], ◌∷◌, None, Some, ◌⊎◌, inl, inr, arith}
use Rattle.std.specs.Prelude.{codes, Contains, flat_map}
use Rattle.gft_core.specs.declared.place.Place.{Place}
use Rattle.gft_syntax.specs.declared.ctype.CType.{CType, out-CType, roll-CType}
use Rattle.gft_syntax.specs.declared.ctype.CType.TheOpen as C
use Rattle.gft_syntax.specs.declared.ctype.CType.TheFolds.{fold-roll-CType}
use Rattle.gft_syntax.specs.declared.ctype.CType.TheViews.{out-roll-CType}
use Rattle.gft_syntax.specs.declared.flat.Flat.{Flat}
use Rattle.gft_syntax.specs.declared.flat.FlatJudgement.{FlatJudgement}
use Rattle.gft_syntax.specs.declared.judgement.Alternative.{Alternative}
use Rattle.gft_syntax.specs.declared.judgement.Constructor.{Constructor}
use Rattle.gft_syntax.specs.declared.judgement.Definition.TheVariants as D
use Rattle.gft_syntax.specs.declared.judgement.Judgement.{Judgement}
use Rattle.gft_syntax.specs.declared.judgement.Judgement.TheVariants as J
use Rattle.gft_syntax.specs.declared.linear.LinTerm.{LinTerm}
use Rattle.gft_syntax.specs.declared.module.Module.{Module}
use Rattle.gft_syntax.specs.declared.reference.PlacedName.{PlacedName}
use Rattle.gft_syntax.specs.declared.reference.Reference.TheVariants.{Whole as WholeName}
use Rattle.gft_syntax.specs.declared.reference.Whole.{Whole}
use Rattle.gft_syntax.specs.declared.term.Sort.TheVariants as Sort-V
use Rattle.gft_syntax.specs.declared.term.Term.{Term, roll-Term}
use Rattle.gft_syntax.specs.declared.term.Term.TheOpen as T
use Rattle.gft_syntax.specs.declared.term.Term.TheFolds.{fold-roll-Term}
use Rattle.gft_syntax.specs.Parts.{names_in}
use Rattle.gft_model.specs.ConcreteTypes.{count_of}
use Rattle.gft_model.specs.ConcreteTyping.{IsType, IsParameter, text_type, type_of_types, type_of_parameters, parameters_named, definition_named, parameter_of, constructor, no_constructor, no_argument, untyped_oper, number}
use Rattle.gft_model.specs.InstanceFaults.{a_type, a_parameter_type, HasAnotherType, other_type, overload_for_one, no_parameter_type, GivesParameter, by_both, by_sort, by_param, by_definition}
use Rattle.gft_model.specs.Items.{items_of}
use Rattle.gft_model.specs.JudgementOrder.{RestsOn, by_declaration, declared_types}
use Rattle.gft_model.specs.TypeForms.{form, str_type, number_type, sort_type, sort_param}
use Rattle.gft_model.specs.TypingSites.{IsOverload}
use Rattle.gft_model.proofs.Computing.{form-roll}
use Rattle.gft_model.proofs.TypeLaws.{type-once}

abbrev nowhere : Place
nowhere = record { file = 0; line = 1; col = 1 }

abbrev named : List ℕ → PlacedName
named x = record { name = x; place = nowhere }

abbrev whole : List ℕ → Whole
whole x = record { «module» = codes "J"; name = x }

abbrev entry : List ℕ → Judgement → FlatJudgement
entry x j = record { whole = whole x; judgement = j }

abbrev name : List ℕ → Term
name x = roll-Term (T.Var (WholeName (whole x)) nowhere)

abbrev str_term : Term
str_term = roll-Term (T.Sort Sort-V.Str nowhere)

abbrev type_term : Term
type_term = roll-Term (T.Sort Sort-V.TypeSort nowhere)

abbrev ptype_term : Term
ptype_term = roll-Term (T.Sort Sort-V.ParamSort nowhere)

-- what an instance has
abbrev having : List FlatJudgement → List FlatJudgement → Flat
having params opers =
    record { name = None; start = None; cats = []; funs = []; params = params; opers = opers; concretes = []; typed = [] }

abbrev two : List Constructor
two = record { name = named (codes "U"); arguments = [] } ∷ record { name = named (codes "V"); arguments = [] } ∷ []

module _ (mods : List Module) (m : Module) where
  -- interface I = {oper T : PType} ; instance J of I = {param T = U | V}: a param gives it
  abbrev with_param : Flat
  with_param = having (entry (codes "T") (J.Param (named (codes "T")) two) ∷ []) []

  pub param_gives_ptype : {t : Term} → t ≡ ptype_term → ¬ (HasAnotherType mods m with_param (whole (codes "T")) (a_type t))
  param_gives_ptype e (other_type {t = t} p {A = A} is absent there differ both) =
      both (by_param refl, inr (type-once (items_of with_param) is (type_of_parameters (form-roll _)) e))
  param_gives_ptype e (overload_for_one (inl h)) = cc
  param_gives_ptype e (overload_for_one (inr h)) = cc

  -- interface I = {oper x : Str} ; instance J of I = {oper x = 3}
  abbrev with_number : Flat
  with_number = having [] (entry (codes "x") (J.Oper (named (codes "x") ∷ []) [] (D.Term (roll-Term (T.Num 3 nowhere)))) ∷ [])

  no_overload : ¬ (IsOverload with_number (whole (codes "x")))
  no_overload (inl h) = cc
  no_overload (inr h) = cc

  pub number_is_no_string : HasAnotherType mods m with_number (whole (codes "x")) (a_type str_term)
  number_is_no_string = other_type nowhere (text_type (form-roll _)) no_overload (_, untyped_oper 0 (form-roll _) refl (number (form-roll _)))
      (λ e. let h = out-roll-CType C.Str in let k = out-roll-CType (C.Ints 3) in cc) (λ b. no_sort b.1)
    where
      no_sort : (str_type ≡ sort_type) ⊎ (str_type ≡ sort_param) → ⊥
      no_sort (inl e) = let h = out-roll-CType C.Str in let k = out-roll-CType C.TypeSort in cc
      no_sort (inr e) = let h = out-roll-CType C.Str in let k = out-roll-CType C.ParamSort in cc

  -- instance J of I = {oper x = overload {x : Str = ..}}: an overload is of no one type
  abbrev with_overload : Flat
  with_overload = having [] (entry (codes "x") (J.Oper (named (codes "x") ∷ []) []
      (D.Overload (record { names = codes "x" ∷ []; of_type = str_term; value = roll-Term (T.Lit [] nowhere) } ∷ []))) ∷ [])

  pub overload_is_no_string : HasAnotherType mods m with_overload (whole (codes "x")) (a_type str_term)
  overload_is_no_string = overload_for_one (inl refl)

  -- interface I = {param T} ; instance J of I = {oper T : Type = Str}
  abbrev with_type : Flat
  with_type = having [] (entry (codes "T") (J.OperTyped (named (codes "T") ∷ []) type_term (D.Term str_term)) ∷ [])

  gives_none : GivesParameter mods m with_type (whole (codes "T")) → ⊥
  gives_none (by_both (by_param h)) = cc
  gives_none (by_both (by_definition h i o)) = cc
  gives_none (by_sort {t = t} h i) =
      let same : t ≡ type_term = cc in
      let e = type-once (items_of with_type) i (type_of_types (form-roll _)) same in
      let k = out-roll-CType C.TypeSort in let l = out-roll-CType C.ParamSort in cc

  pub type_gives_no_param : HasAnotherType mods m with_type (whole (codes "T")) a_parameter_type
  type_gives_no_param = no_parameter_type gives_none

  -- interface I = {param T} ; instance J of I = {param P = U | V ; oper Q = P ; T = Q}: a chain that ends in a param
  abbrev untyped : List ℕ → List ℕ → FlatJudgement
  untyped x y = entry x (J.Oper (named x ∷ []) [] (D.Term (name y)))

  abbrev with_chain : Flat
  with_chain = having (entry (codes "P") (J.Param (named (codes "P")) two) ∷ [])
      (untyped (codes "Q") (codes "P") ∷ untyped (codes "T") (codes "Q") ∷ [])

  abbrev p_type : CType
  p_type = roll-CType (C.Param (whole (codes "P")) ((whole (codes "U"), []) ∷ (whole (codes "V"), []) ∷ []))

  two_values : count_of p_type ≡ 2
  two_values = simp fold-roll-CType

  p_is : IsType (items_of with_chain) (name (codes "P")) p_type
  p_is = parameters_named (form-roll _) (parameter_of refl (constructor no_argument (constructor no_argument no_constructor)) (out-roll-CType _))
      (omega (arith, two_values))

  q_is : IsType (items_of with_chain) (name (codes "Q")) p_type
  q_is = definition_named 1 (form-roll _) refl (λ q h. let k = form-roll (T.Var (WholeName (whole (codes "P"))) nowhere) in cc) p_is

  pub chain_gives_param : GivesParameter mods m with_chain (whole (codes "T"))
  chain_gives_param = by_both (by_definition {k = 2} refl q_is (out-roll-CType _))

-- interface I = {oper T : PType ; x : T} ; instance J of I = {oper x = "a" ; T : PType = Ints 3}: x rests on T, which is
-- typed first
abbrev own_x : FlatJudgement
own_x = entry (codes "x") (J.Oper (named (codes "x") ∷ []) [] (D.Term (roll-Term (T.Lit (codes "a") nowhere))))

abbrev own_t : FlatJudgement
own_t = entry (codes "T") (J.OperTyped (named (codes "T") ∷ []) ptype_term (D.Term (roll-Term (T.Num 3 nowhere))))

abbrev IsOfX : FlatJudgement → Judgement → Type 0
IsOfX f j = (f ≡ own_x) × (j ≡ J.OperType (named (codes "x") ∷ []) (name (codes "T")))

pub x_rests_on_t : RestsOn IsOfX (own_x ∷ own_t ∷ []) [] own_x own_t
x_rests_on_t = by_declaration {w = whole (codes "T")} (0, omega arith, refl) (1, omega arith, refl) (refl, refl) names (0, omega arith, refl)
  where
    names : Contains (flat_map names_in (declared_types (J.OperType (named (codes "x") ∷ []) (name (codes "T"))))) (whole (codes "T"))
    names = subst (λ ws. Contains ws (whole (codes "T"))) (sym computed) (0, omega arith, refl)
      where
        computed : flat_map names_in (declared_types (J.OperType (named (codes "x") ∷ []) (name (codes "T")))) ≡ whole (codes "T") ∷ []
        computed = simp fold-roll-Term
