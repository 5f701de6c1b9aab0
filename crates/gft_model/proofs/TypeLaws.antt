-- A term is at most one type where a type must stand.
use Rattle.std.proofs.Common.{◌≡◌, ap, sym, ◌∙◌, refl, ℕ, List, ◌∷◌}
use Rattle.gft_syntax.specs.declared.ctype.CType.{CType, out-CType, roll-CType}
use Rattle.gft_syntax.specs.declared.ctype.CType.TheViews.{roll-out-CType}
use Rattle.gft_syntax.specs.declared.judgement.Constructor.{Constructor}
use Rattle.gft_syntax.specs.declared.judgement.Context.{Context}
use Rattle.gft_syntax.specs.declared.reference.Reference.TheVariants.{Whole as WholeName}
use Rattle.gft_syntax.specs.declared.reference.Whole.{Whole}
use Rattle.gft_syntax.specs.declared.term.Local.{Local}
use Rattle.gft_syntax.specs.declared.term.Sort.TheVariants as Sort
use Rattle.gft_syntax.specs.declared.term.Term.{Term}
use Rattle.gft_syntax.specs.declared.term.Term.TheOpen as F
use Rattle.gft_model.specs.ConcreteTyping.{IsType, text_type, type_of_types, type_of_parameters, numbers_to, labels, table_over, function_from, pair_of, parameters_named, oper_named, definition_named, IsParameter, parameter_of, AreConstructors, no_constructor, constructor, AreArguments, no_argument, arguments, AreLabels, no_label, label, AreFactors, last_factor, next_factor}
use Rattle.gft_model.specs.Items.{Item}
use Rattle.gft_model.specs.TypeForms.{form}

-- a type is determined by its layer
pub same-layer : {T U : CType} → out-CType T ≡ out-CType U → T ≡ U
same-layer {T = T} {U = U} e = sym (roll-out-CType T) ∙ ap roll-CType e ∙ roll-out-CType U

abbrev constructor_name_of : Whole → Constructor → Whole
constructor_name_of w c = record { «module» = w.«module»; name = c.name.name }

same-constructor : {w v : Whole} {c d : Constructor} {Ts Us : List CType} {ds es : List (Whole × List CType)} → w ≡ v → c ≡ d → Ts ≡ Us → ds ≡ es →
    (constructor_name_of w c, Ts) ∷ ds ≡ (constructor_name_of v d, Us) ∷ es
same-constructor {v = v} {c = c} e f g h =
    let i = ap (λ (u : Whole). constructor_name_of u c) e ∙ ap (λ (x : Constructor). constructor_name_of v x) f in cc

module _ (items : List Item) where
  abbrev form_of : {e : Term} {T : CType} → IsType items e T → F.Term-F Term
  form_of (text_type {place = p} h) = F.Sort Sort.Str p
  form_of (type_of_types {place = p} h) = F.Sort Sort.TypeSort p
  form_of (type_of_parameters {place = p} h) = F.Sort Sort.ParamSort p
  form_of (numbers_to {f = f} {a = a} {p = p} h i j k) = F.App f a p
  form_of (labels {ls = ls} {p = p} h a) = F.Fields ls p
  form_of (table_over {a = a} {b = b} {p = p} h i j k l) = F.TabType a b p
  form_of (function_from {a = a} {b = b} {xs = xs} {p = p} h i j k) = F.Arrow xs a b p
  form_of (pair_of {a = a} {b = b} {p = p} h i) = F.Pair a b p
  form_of (parameters_named {w = w} {p = p} h i j) = F.Var (WholeName w) p
  form_of (oper_named {w = w} n {p = p} h i j k l) = F.Var (WholeName w) p
  form_of (definition_named {w = w} n {p = p} h i j k) = F.Var (WholeName w) p

  form_is : {e : Term} {T : CType} (d : IsType items e T) → form e ≡ form_of d
  form_is (text_type h) = h
  form_is (type_of_types h) = h
  form_is (type_of_parameters h) = h
  form_is (numbers_to h i j k) = h
  form_is (labels h a) = h
  form_is (table_over h i j k l) = h
  form_is (function_from h i j k) = h
  form_is (pair_of h i) = h
  form_is (parameters_named h i j) = h
  form_is (oper_named n h i j k l) = h
  form_is (definition_named n h i j k) = h

  mutual
    pub type-once : {e f : Term} {S T : CType} → IsType items e S → IsType items f T → e ≡ f → S ≡ T
    type-once (text_type a) (text_type b) e = refl
    type-once (text_type a) d e = let k = form_is d in cc
    type-once (type_of_types a) (type_of_types b) e = refl
    type-once (type_of_types a) d e = let k = form_is d in cc
    type-once (type_of_parameters a) (type_of_parameters b) e = refl
    type-once (type_of_parameters a) d e = let k = form_is d in cc
    type-once (numbers_to a1 a2 a3 a4) (numbers_to b1 b2 b3 b4) e = cc
    type-once (numbers_to a1 a2 a3 a4) d e = let k = form_is d in cc
    type-once (labels a1 a2) (labels b1 b2) e = let i = labels-once a2 b2 (cc) in cc
    type-once (labels a1 a2) d e = let k = form_is d in cc
    type-once (table_over a1 a2 a3 a4 a5) (table_over b1 b2 b3 b4 b5) e = let i = type-once a2 b2 (cc) in let j = type-once a4 b4 (cc) in cc
    type-once (table_over a1 a2 a3 a4 a5) d e = let k = form_is d in cc
    type-once (function_from a1 a2 a3 a4) (function_from b1 b2 b3 b4) e = let i = type-once a2 b2 (cc) in let j = type-once a4 b4 (cc) in cc
    type-once (function_from a1 a2 a3 a4) d e = let k = form_is d in cc
    type-once (pair_of a1 a2) (pair_of b1 b2) e = let i = factors-once a2 b2 e in cc
    type-once (pair_of a1 a2) d e = let k = form_is d in cc
    type-once (parameters_named a1 a2 a3) (parameters_named b1 b2 b3) e = parameter-once a2 b2 (cc)
    type-once (parameters_named a1 (parameter_of s t u) a3) (oper_named n b1 b2 b3 b4 b5) e = cc
    type-once (parameters_named a1 (parameter_of s t u) a3) (definition_named n b1 b2 b3 b4) e = cc
    type-once (parameters_named a1 a2 a3) d e = let k = form_is d in cc
    type-once (oper_named n a1 a2 a3 a4 a5) (oper_named m b1 b2 b3 b4 b5) e = type-once a5 b5 (cc)
    type-once (oper_named n a1 a2 a3 a4 a5) (parameters_named b1 (parameter_of s t u) b3) e = cc
    type-once (oper_named n a1 a2 a3 a4 a5) (definition_named m b1 b2 b3 b4) e = cc
    type-once (oper_named n a1 a2 a3 a4 a5) d e = let k = form_is d in cc
    type-once (definition_named n a1 a2 a3 a4) (definition_named m b1 b2 b3 b4) e = type-once a4 b4 (cc)
    type-once (definition_named n a1 a2 a3 a4) (parameters_named b1 (parameter_of s t u) b3) e = cc
    type-once (definition_named n a1 a2 a3 a4) (oper_named m b1 b2 b3 b4 b5) e = cc
    type-once (definition_named n a1 a2 a3 a4) d e = let k = form_is d in cc

    pub parameter-once : {w v : Whole} {S T : CType} → IsParameter items w S → IsParameter items v T → w ≡ v → S ≡ T
    parameter-once (parameter_of a1 a2 a3) (parameter_of b1 b2 b3) e = let i = constructors-once a2 b2 e (cc) in same-layer (cc)

    constructors-once : {w v : Whole} {cs bs : List Constructor} {ds es : List (Whole × List CType)} → AreConstructors items w cs ds → AreConstructors items v bs es → w ≡ v → cs ≡ bs → ds ≡ es
    constructors-once no_constructor no_constructor e f = refl
    constructors-once no_constructor (constructor b1 b2) e f = cc
    constructors-once (constructor a1 a2) no_constructor e f = cc
    constructors-once (constructor {c = c} a1 a2) (constructor {c = d} b1 b2) e f =
        let k : c ≡ d = cc in
        let i = arguments-once a1 b1 (ap (λ (x : Constructor). x.arguments) k) in let j = constructors-once a2 b2 e (cc) in same-constructor e k i j

    arguments-once : {cs bs : List Context} {Ts Us : List CType} → AreArguments items cs Ts → AreArguments items bs Us → cs ≡ bs → Ts ≡ Us
    arguments-once no_argument no_argument e = refl
    arguments-once no_argument (arguments b1 b2 b3) e = cc
    arguments-once (arguments a1 a2 a3) no_argument e = cc
    arguments-once (arguments {c = c} a1 a2 a3) (arguments {c = d} b1 b2 b3) e =
        let k : c ≡ d = cc in
        let l = ap (λ (x : Context). x.binds) k in
        let i = type-once a1 b1 (ap (λ (x : Context). x.of_type) k) in let j = arguments-once a3 b3 (cc) in cc

    labels-once : {ls ks : List (Local Term)} {fs gs : List (List ℕ × CType)} → AreLabels items ls fs → AreLabels items ks gs → ls ≡ ks → fs ≡ gs
    labels-once no_label no_label e = refl
    labels-once no_label (label b1 b2 b3) e = cc
    labels-once (label a1 a2 a3) no_label e = cc
    labels-once (label a1 a2 a3) (label b1 b2 b3) e = let i = type-once a1 b1 (cc) in let j = labels-once a3 b3 (cc) in cc

    factors-once : {e f : Term} {Ts Us : List CType} → AreFactors items e Ts → AreFactors items f Us → e ≡ f → Ts ≡ Us
    factors-once (last_factor a1 a2 a3) (last_factor b1 b2 b3) e = let i = type-once a2 b2 e in cc
    factors-once (last_factor a1 a2 a3) (next_factor b1 b2 b3 b4) e = absurd (a1 _ _ _ (ap form e ∙ b1))
    factors-once (next_factor a1 a2 a3 a4) (last_factor b1 b2 b3) e = absurd (b1 _ _ _ (ap form (sym e) ∙ a1))
    factors-once (next_factor a1 a2 a3 a4) (next_factor b1 b2 b3 b4) e = let i = factors-once a2 b2 (cc) in let j = type-once a3 b3 (cc) in cc
