-- A term has at most one found type, and at most one typed term that it means.
use Rattle.std.proofs.Common.{◌≡◌, ap, sym, ◌∙◌, subst, refl, ℕ, List, [], ◌∷◌, Option, Some, None, true, false, ◌==◌, rules}
use Rattle.std.specs.List.{list_all}
use Rattle.std.specs.Option.{is_some}
use Rattle.std.specs.Prelude.{Bool, ◌&&◌}
use Rattle.gft_core.specs.declared.place.Place.{Place}
use Rattle.gft_syntax.specs.declared.ctype.CType.{CType, out-CType}
use Rattle.gft_syntax.specs.declared.ctype.CType.TheOpen as C
use Rattle.gft_syntax.specs.declared.ctype.CType.TheViews.{out-roll-CType}
use Rattle.gft_syntax.specs.declared.linear.LinTerm.{LinTerm}
use Rattle.gft_syntax.specs.declared.pattern.Pattern.{Pattern}
use Rattle.gft_syntax.specs.declared.reference.Reference.TheVariants.{Written, Found, Whole as WholeName}
use Rattle.gft_syntax.specs.declared.reference.Whole.{Whole}
use Rattle.gft_syntax.specs.declared.term.Case.{Case}
use Rattle.gft_syntax.specs.declared.term.Local.{Local}
use Rattle.gft_syntax.specs.declared.term.Sort.TheVariants as Sort
use Rattle.gft_syntax.specs.declared.term.Term.{Term}
use Rattle.gft_syntax.specs.declared.term.Term.TheOpen as F
use Rattle.gft_syntax.specs.Parts.{is_value}
use Rattle.gft_model.specs.ConcreteTypes.{record_in, table_in, IsSubtype, equal, fewer_labels, tables, numbers, functions}
use Rattle.gft_model.specs.ConcreteTyping.{is_term_first, is_table_expression, passes, Spine, applied_to, at_head, Fits, same, cut, sort, IsType, IsData, an_overload, Stands, Takes, takes_none, takes, Suits, suits_by, Chosen, parameter_of, AreLabels, no_label, label, text_type, type_of_types, type_of_parameters, numbers_to, labels, table_over, function_from, pair_of, parameters_named, oper_named, definition_named, with_names, with_lets, Finds, Checks, FindsAll, none_found, next_found, MembersFind, first_member, MembersCheck, no_member, member, BranchesFind, first_branch, BranchesCheck, no_branch, branch, FieldsHave, no_field, value_given, value_found, typed_given, typed_alone, Defines, no_local, local, typed_local, variable, constructor_name, typed_oper, untyped_oper, parameter_name, bare_parameter_name, IsTypeForm, a_type, some_numbers, literal, append, glue, number, predef, projection, application, overloaded, selection, branch_over, branch_of, item_of, case_found, table_found, list_found, record_found, extension, typed, let_found, variants_found, lambda, table_lambda, branches, listed, record_given, let_given, case_given, variants_given, empty_type, parameter_given, found, type_form}
use Rattle.gft_model.specs.Items.{Item}
use Rattle.gft_model.specs.PatternTyping.{Scope}
use Rattle.gft_model.specs.TypeForms.{form, record_type}
use Rattle.gft_model.specs.Values.{extended}
use Rattle.gft_model.proofs.PatternLaws.{fits-once, same-arguments}
use Rattle.gft_model.proofs.TypeLaws.{type-once, parameter-once}

pub apart : false ≡ true → ⊥
apart e = cc

-- a number for each form of term, and for each kind of name and of table
abbrev pub tag : F.Term-F Term → ℕ
tag (F.Alt a b p) = 1
tag (F.Fun a b p) = 2
tag (F.TabFun a b p) = 3
tag (F.Arrow a b c p) = 4
tag (F.TabType a b p) = 5
tag (F.Let a b p) = 6
tag (F.Concat a b p) = 7
tag (F.Glue a b p) = 8
tag (F.Select a b p) = 9
tag (F.Extend a b p) = 10
tag (F.Pair a b p) = 11
tag (F.TableOf a b p) = 12
tag (F.TableList a b p) = 14
tag (F.App a b p) = 15
tag (F.CaseOf a b p) = 16
tag (F.Variants a p) = 17
tag (F.Proj a b p) = 18
tag (F.Var (Written x) p) = 19
tag (F.Var (WholeName w) p) = 20
tag (F.Var (Found o) p) = 21
tag (F.Lit a p) = 22
tag (F.Num a p) = 23
tag (F.Empty p) = 24
tag (F.ListCat a p) = 25
tag (F.Sort a p) = 26
tag (F.Fields a p) = 27
tag (F.Tuple a p) = 28
tag (F.Typed a b p) = 29

pub same-tag : {e f : Term} {l m : F.Term-F Term} → form e ≡ l → e ≡ f → form f ≡ m → tag l ≡ tag m
same-tag h e k = ap tag (sym h ∙ ap form e ∙ k)

eq-self : (n : ℕ) → (n == n) ≡ true
eq-self n = search rules

pub apart-tags : (m n : ℕ) → (m == n) ≡ false → m ≡ n → ⊥
apart-tags m n h e = apart (sym h ∙ (ap (λ (k : ℕ). m == k) (sym e) ∙ eq-self m))

-- an application taken apart, in one way
pub spine-once : {e d f g : Term} {es ds xs ys : List Term} → Spine e es f xs → Spine d ds g ys → e ≡ d → es ≡ ds → (f ≡ g) × (xs ≡ ys)
spine-once (applied_to h s) (applied_to k r) e f = spine-once s r (cc) (cc)
spine-once (applied_to h s) (at_head n) e f = absurd (n _ _ _ (ap form (sym e) ∙ h))
spine-once (at_head n) (applied_to k r) e f = absurd (n _ _ _ (ap form e ∙ k))
spine-once (at_head n) (at_head m) e f = (e, f)

apart-tables : {e f a b c d : Term} {p q : Place} → form e ≡ F.Select a b p → form f ≡ F.Select c d q → e ≡ f → is_table_expression (form a) ≡ false → is_table_expression (form c) ≡ true → ⊥
apart-tables h k e i j = cc

apart-heads : {e d f r : Term} {x y : List ℕ} {p q s : Place} → form e ≡ F.Proj f x p → form d ≡ F.Proj r y s → e ≡ d → form f ≡ F.Sort Sort.Predef q → form r ≡ F.Sort Sort.Predef q
apart-heads h k e i = cc

same-extension : {S T U V : CType} {fs gs hs ks : List (List ℕ × CType)} → S ≡ U → T ≡ V → out-CType S ≡ C.Record fs → out-CType T ≡ C.Record gs → out-CType U ≡ C.Record hs → out-CType V ≡ C.Record ks →
    record_type (extended fs gs) ≡ record_type (extended hs ks)
same-extension {fs = fs} {gs = gs} {hs = hs} {ks = ks} e f a b c d =
    let i : fs ≡ hs = cc in let j : gs ≡ ks = cc in
    ap (λ (x : List (List ℕ × CType)). record_type (extended x gs)) i ∙ ap (λ (x : List (List ℕ × CType)). record_type (extended hs x)) j

-- what is no subtype
no-subtype : {S T : CType} → IsSubtype S T → (out-CType S ≡ C.ParamSort) × (out-CType T ≡ C.TypeSort) → ⊥
no-subtype equal h = cc
no-subtype (fewer_labels a b c) h = cc
no-subtype (tables a b c) h = cc
no-subtype (numbers a b c) h = cc
no-subtype (functions a b c d) h = cc

no-subtype_back : {S T : CType} → IsSubtype S T → (out-CType S ≡ C.TypeSort) × (out-CType T ≡ C.ParamSort) → ⊥
no-subtype_back equal h = cc
no-subtype_back (fewer_labels a b c) h = cc
no-subtype_back (tables a b c) h = cc
no-subtype_back (numbers a b c) h = cc
no-subtype_back (functions a b c d) h = cc

no-subtype_record : {S T : CType} → IsSubtype S T → (out-CType S ≡ C.Record []) × (out-CType T ≡ C.TypeSort) → ⊥
no-subtype_record equal h = cc
no-subtype_record (fewer_labels a b c) h = cc
no-subtype_record (tables a b c) h = cc
no-subtype_record (numbers a b c) h = cc
no-subtype_record (functions a b c d) h = cc

-- a term of a type where another is given means one term
fits-same : {S T U V : CType} {t u v w : LinTerm} → Fits S T t u → Fits U V v w → S ≡ U → T ≡ V → t ≡ v → u ≡ w
fits-same same same e f g = g
fits-same same (cut n s) e f g = absurd (n (cc))
fits-same same sort e f g = g
fits-same (cut n s) same e f g = absurd (n (cc))
fits-same (cut n s) (cut m r) e f g = cc
fits-same (cut n s) sort e f g = absurd (no-subtype s (ap out-CType e ∙ out-roll-CType C.ParamSort, ap out-CType f ∙ out-roll-CType C.TypeSort))
fits-same sort same e f g = g
fits-same sort (cut n s) e f g = absurd (no-subtype s (ap out-CType (sym e) ∙ out-roll-CType C.ParamSort, ap out-CType (sym f) ∙ out-roll-CType C.TypeSort))
fits-same sort sort e f g = g

pub no-fit : {S T : CType} {t u : LinTerm} → Fits S T t u → (out-CType S ≡ C.TypeSort) × (out-CType T ≡ C.ParamSort) → ⊥
no-fit same h = cc
no-fit (cut n s) h = no-subtype_back s h
no-fit sort h = let i = out-roll-CType C.ParamSort in cc

no-fit_record : {S T : CType} {t u : LinTerm} → Fits S T t u → (out-CType S ≡ C.Record []) × (out-CType T ≡ C.TypeSort) → ⊥
no-fit_record same h = cc
no-fit_record (cut n s) h = no-subtype_record s h
no-fit_record sort h = let i = out-roll-CType C.ParamSort in cc

passes-clash : {e f : Term} {S T : CType} {l : F.Term-F Term} → form e ≡ l → e ≡ f → S ≡ T → passes l (out-CType S) ≡ true → passes (form f) (out-CType T) ≡ false → ⊥
passes-clash {l = l} h e s i j = cc

-- what is given a type of its kind passes it on
pub record-passes : (ls : List (Local Term)) (p : Place) (T : CType) {gs : List (List ℕ × CType)} → list_all is_value ls ≡ true → out-CType T ≡ C.Record gs → passes (F.Fields ls p) (out-CType T) ≡ true
record-passes ls p T h k = ap (λ (b : Bool). b && is_some (record_in (out-CType T))) h ∙ ap (λ (d : C.CType-F CType). is_some (record_in d)) k

table-passes : (T : CType) {P V : CType} → out-CType T ≡ C.Table P V → is_some (table_in (out-CType T)) ≡ true
table-passes T h = ap (λ (d : C.CType-F CType). is_some (table_in d)) h

branches-pass : (D : Option Term) (cs : List (Case Term)) (p : Place) (T : CType) {P V : CType} → out-CType T ≡ C.Table P V → passes (F.TableOf D cs p) (out-CType T) ≡ true
branches-pass None cs p T h = refl
branches-pass (Some d) cs p T h = table-passes T h

same-names : {xs ys : List (List ℕ)} {T U : CType} {Γ Δ : Scope} → xs ≡ ys → T ≡ U → Γ ≡ Δ → with_names xs T Γ ≡ with_names ys U Δ
same-names {ys = ys} {T = T} {U = U} {Γ = Γ} e f g =
    ap (λ (zs : List (List ℕ)). with_names zs T Γ) e ∙ ap (λ (S : CType). with_names ys S Γ) f ∙ ap (λ (Θ : Scope). with_names ys U Θ) g

same-lets : {ds es : List (List (List ℕ) × LinTerm)} {t u : LinTerm} → ds ≡ es → t ≡ u → with_lets ds t ≡ with_lets es u
same-lets {es = es} {t = t} e f = ap (λ (xs : List (List (List ℕ) × LinTerm)). with_lets xs t) e ∙ ap (with_lets es) f

module _ (items : List Item) where
  -- types that are applications or fields
  ints_head : {d g b : Term} {T : CType} {p : Place} → IsType items d T → form d ≡ F.App g b p → (q : Place) × (form g ≡ F.Sort Sort.Ints q)
  ints_head (text_type h) e = absurd (cc)
  ints_head (type_of_types h) e = absurd (cc)
  ints_head (type_of_parameters h) e = absurd (cc)
  ints_head (numbers_to {q = q} h i j k) e = (q, cc)
  ints_head (labels h i) e = absurd (cc)
  ints_head (table_over h i j k l) e = absurd (cc)
  ints_head (function_from h i j k) e = absurd (cc)
  ints_head (pair_of h i) e = absurd (cc)
  ints_head (parameters_named h i j) e = absurd (cc)
  ints_head (oper_named n h i j k l) e = absurd (cc)
  ints_head (definition_named n h i j k) e = absurd (cc)

  -- forms of types, and that what is a type and no name or {} has one
  abbrev is_type_form : F.Term-F Term → Bool
  is_type_form (F.Sort s p) = true
  is_type_form (F.App f a p) = true
  is_type_form (F.Arrow xs a b p) = true
  is_type_form (F.TabType a b p) = true
  is_type_form (F.Pair a b p) = true
  is_type_form (F.Fields [] p) = false
  is_type_form (F.Fields (l ∷ ls) p) = true
  is_type_form d = false

  typed-form : {e : Term} {T : CType} → IsType items e T → is_term_first (form e) ≡ false → is_type_form (form e) ≡ true
  typed-form (text_type h) n = ap is_type_form h
  typed-form (type_of_types h) n = ap is_type_form h
  typed-form (type_of_parameters h) n = ap is_type_form h
  typed-form (numbers_to h i j k) n = ap is_type_form h
  typed-form (labels {ls = []} h i) n = let k = ap is_term_first (sym h) ∙ n in absurd (apart (sym k))
  typed-form (labels {ls = l ∷ ls} h i) n = ap is_type_form h
  typed-form (table_over h i j k l) n = ap is_type_form h
  typed-form (function_from h i j k) n = ap is_type_form h
  typed-form (pair_of h i) n = ap is_type_form h
  typed-form (parameters_named h i j) n = let k = ap is_term_first (sym h) ∙ n in absurd (apart (sym k))
  typed-form (oper_named m h i j k l) n = let k = ap is_term_first (sym h) ∙ n in absurd (apart (sym k))
  typed-form (definition_named m h i j k) n = let k = ap is_term_first (sym h) ∙ n in absurd (apart (sym k))

  -- so for forms that are types wherever they stand
  form-typed : {e : Term} → IsTypeForm items e → is_term_first (form e) ≡ false → is_type_form (form e) ≡ true
  form-typed (a_type t) n = typed-form t n
  form-typed (some_numbers h i j) n = ap is_type_form h

  ints-form : {d g b : Term} {p : Place} → IsTypeForm items d → form d ≡ F.App g b p → (q : Place) × (form g ≡ F.Sort Sort.Ints q)
  ints-form (a_type t) e = ints_head t e
  ints-form (some_numbers {q = q} h i j) e = (q, cc)

  fields_labels : {d : Term} {T : CType} {ls : List (Local Term)} {p : Place} → IsType items d T → form d ≡ F.Fields ls p → (fs : List (List ℕ × CType)) × AreLabels items ls fs
  fields_labels (text_type h) e = absurd (cc)
  fields_labels (type_of_types h) e = absurd (cc)
  fields_labels (type_of_parameters h) e = absurd (cc)
  fields_labels (numbers_to h i j k) e = absurd (cc)
  fields_labels {ls = ls} (labels {ls = ks} {fs = fs} h i) e = let j : ks ≡ ls = cc in (fs, subst (λ (xs : List (Local Term)). AreLabels items xs fs) j i)
  fields_labels (table_over h i j k l) e = absurd (cc)
  fields_labels (function_from h i j k) e = absurd (cc)
  fields_labels (pair_of h i) e = absurd (cc)
  fields_labels (parameters_named h i j) e = absurd (cc)
  fields_labels (oper_named n h i j k l) e = absurd (cc)
  fields_labels (definition_named n h i j k) e = absurd (cc)

  fields-form : {d : Term} {ls : List (Local Term)} {p : Place} → IsTypeForm items d → form d ≡ F.Fields ls p → (fs : List (List ℕ × CType)) × AreLabels items ls fs
  fields-form (a_type t) e = fields_labels t e
  fields-form (some_numbers h i j) e = absurd (cc)

  no-mix : {Γ : Scope} {ls ks : List (Local Term)} {fs gs hs : List (List ℕ × CType)} {ts : List (List ℕ × LinTerm)} → AreLabels items ls fs → FieldsHave items Γ gs ks hs ts → ls ≡ ks → ls ≡ []
  no-mix no_label d e = refl
  no-mix (label a b c) no_field e = e
  no-mix (label a b c) (value_given x y z) e = cc
  no-mix (label a b c) (value_found x y z w) e = cc
  no-mix (label a b c) (typed_given x y z w v) e = cc
  no-mix (label a b c) (typed_alone x y z w v) e = cc

  no_ints_var : {e d f g a : Term} {es xs : List Term} {w : Whole} {p q : Place} → form e ≡ F.App f a q → Spine f es g xs → form g ≡ F.Var (WholeName w) p → IsTypeForm items d → e ≡ d → ⊥
  no_ints_var k (applied_to m s) h t e = let i = ints-form t (ap form (sym e) ∙ k) in let j = i.1 in cc
  no_ints_var k (at_head n) h t e = let i = ints-form t (ap form (sym e) ∙ k) in let j = i.1 in cc

  no_record : {Γ : Scope} {e d : Term} {ls : List (Local Term)} {p : Place} {gs fs : List (List ℕ × CType)} {ts : List (List ℕ × LinTerm)} →
      form e ≡ F.Fields ls p → FieldsHave items Γ gs ls fs ts → is_term_first (form d) ≡ false → IsTypeForm items d → e ≡ d → ⊥
  no_record {ls = ls} {p = p} h f k t e =
      let l = fields-form t (ap form (sym e) ∙ h) in
      let m = no-mix l.1 f refl in
      let n : false ≡ true = ap (λ (xs : List (Local Term)). is_type_form (F.Fields xs p)) (sym m) ∙ ap is_type_form (sym h ∙ ap form e) ∙ form-typed t k in
      apart n

  takes-once : {F G R S : CType} {As Bs : List CType} {t s u v : LinTerm} {us vs : List LinTerm} → Takes items F t As us R u → Takes items G s Bs vs S v → F ≡ G → t ≡ s → As ≡ Bs → us ≡ vs → (R ≡ S) × (u ≡ v)
  takes-once (takes_none a) (takes_none b) e f g h = (e, f)
  takes-once (takes_none a) (takes b0 m b1 b2) e f g h = (cc, cc)
  takes-once (takes a0 l a1 a2) (takes_none b) e f g h = (cc, cc)
  takes-once (takes a0 l a1 a2) (takes b0 m b1 b2) e f g h = let i = fits-same a1 b1 (cc) (cc) (cc) in takes-once a2 b2 (cc) (cc) (cc) (cc)

  suits-along : {w v : Whole} {As Bs : List CType} {us vs : List LinTerm} {j : ℕ} {S : CType} {z : LinTerm} → w ≡ v → As ≡ Bs → us ≡ vs → Suits items v Bs vs j S z → Suits items w As us j S z
  suits-along {w = w} {v = v} {As = As} {Bs = Bs} {us = us} {vs = vs} {j = j} {S = S} {z = z} e f g s =
      subst (λ (x : Whole). Suits items x As us j S z) (sym e) (subst (λ (x : List CType). Suits items v x us j S z) (sym f) (subst (λ (x : List LinTerm). Suits items v Bs x j S z) (sym g) s))

  suits-once : {w v : Whole} {As Bs : List CType} {us vs : List LinTerm} {k j : ℕ} {R S : CType} {u z : LinTerm} → Suits items w As us k R u → Suits items v Bs vs j S z → k ≡ j → As ≡ Bs → us ≡ vs → (R ≡ S) × (u ≡ z)
  suits-once (suits_by a0 a1 a2) (suits_by b0 b1 b2) l f g = let i = type-once items a1 b1 (cc) in takes-once a2 b2 i (cc) f g

  chosen-once : {w v : Whole} {As Bs : List CType} {us vs : List LinTerm} {k j : ℕ} {R S : CType} {u z : LinTerm} → Chosen items w As us k R u → Chosen items v Bs vs j S z → w ≡ v → As ≡ Bs → us ≡ vs → (R ≡ S) × (u ≡ z)
  chosen-once {j = j} {S = S} {z = z} c d e f g = suits-once c.suits d.suits (sym (c.alone j S z (suits-along e f g d.suits))) f g

  abbrev form_of : {Γ : Scope} {e : Term} {T : CType} {t : LinTerm} → Finds items Γ e T t → F.Term-F Term
  form_of (variable {x = x} {p = p} a0 a1) = F.Var (Written x) p
  form_of (constructor_name {c = c} {p = p} a0 a1 a2 a3) = F.Var (WholeName c) p
  form_of (typed_oper {w = w} k {p = p} a0 a1 a2) = F.Var (WholeName w) p
  form_of (untyped_oper {w = w} k {p = p} a0 a1 a2) = F.Var (WholeName w) p
  form_of (overloaded {w = w} k {p = p} (at_head n) a1 a2 a3 a4) = F.Var (WholeName w) p
  form_of (parameter_name {w = w} {p = p} a0 a1) = F.Var (WholeName w) p
  form_of (bare_parameter_name {w = w} {p = p} a0 a1) = F.Var (WholeName w) p
  form_of (literal {text = s} {p = p} a0) = F.Lit s p
  form_of (append {a = a} {b = b} {p = p} a0 a1 a2) = F.Concat a b p
  form_of (glue {a = a} {b = b} {p = p} a0 a1 a2) = F.Glue a b p
  form_of (number {n = n} {p = p} a0) = F.Num n p
  form_of (predef {f = f} {x = x} {p = p} a0 a1 a2) = F.Proj f x p
  form_of (projection {r = f} {x = x} {p = p} a0 a1 a2 a3) = F.Proj f x p
  form_of (application {f = f} {a = a} {p = p} a0 a1 a2 a3) = F.App f a p
  form_of (overloaded k (applied_to {f = f} {a = a} {place = p} h s) a1 a2 a3 a4) = F.App f a p
  form_of (selection {a = a} {b = b} {p = p} a0 a1 a2 a3 a4) = F.Select a b p
  form_of (branch_over {a = a} {b = b} {p = p} a0 a1 a2 a3 a4 a5) = F.Select a b p
  form_of (branch_of {a = a} {b = b} {p = p} a0 a1 a2 a3 a4) = F.Select a b p
  form_of (item_of {a = a} {b = b} {p = p} a0 a1 a2 a3 a4 a5 a6) = F.Select a b p
  form_of (case_found {b = b} {cs = cs} {p = p} a0 a1 a2 a3) = F.CaseOf b cs p
  form_of (table_found {P = P} {cs = cs} {p = p} a0 a1 a2 a3 a4) = F.TableOf (Some P) cs p
  form_of (list_found {P = P} {es = es} {p = p} a0 a1 a2 a3 a4) = F.TableList P es p
  form_of (record_found {ls = ls} {p = p} a0 a1) = F.Fields ls p
  form_of (extension {a = a} {b = b} {p = p} a0 a1 a2 a3 a4) = F.Extend a b p
  form_of (typed {a = a} {b = b} {p = p} a0 a1 a2) = F.Typed a b p
  form_of (let_found {b = b} {ls = ls} {p = p} a0 a1 a2) = F.Let ls b p
  form_of (variants_found {es = es} {p = p} a0 a1) = F.Variants es p
  form_of (type_form {e = e} a0 a1) = form e

  form_is : {Γ : Scope} {e : Term} {T : CType} {t : LinTerm} (d : Finds items Γ e T t) → form e ≡ form_of d
  form_is (variable a0 a1) = a0
  form_is (constructor_name a0 a1 a2 a3) = a0
  form_is (typed_oper k a0 a1 a2) = a0
  form_is (untyped_oper k a0 a1 a2) = a0
  form_is (overloaded k (at_head n) a1 a2 a3 a4) = a1
  form_is (parameter_name a0 a1) = a0
  form_is (bare_parameter_name a0 a1) = a0
  form_is (literal a0) = a0
  form_is (append a0 a1 a2) = a0
  form_is (glue a0 a1 a2) = a0
  form_is (number a0) = a0
  form_is (predef a0 a1 a2) = a0
  form_is (projection a0 a1 a2 a3) = a0
  form_is (application a0 a1 a2 a3) = a0
  form_is (overloaded k (applied_to h s) a1 a2 a3 a4) = h
  form_is (selection a0 a1 a2 a3 a4) = a0
  form_is (branch_over a0 a1 a2 a3 a4 a5) = a0
  form_is (branch_of a0 a1 a2 a3 a4) = a0
  form_is (item_of a0 a1 a2 a3 a4 a5 a6) = a0
  form_is (case_found a0 a1 a2 a3) = a0
  form_is (table_found a0 a1 a2 a3 a4) = a0
  form_is (list_found a0 a1 a2 a3 a4) = a0
  form_is (record_found a0 a1) = a0
  form_is (extension a0 a1 a2 a3 a4) = a0
  form_is (typed a0 a1 a2) = a0
  form_is (let_found a0 a1 a2) = a0
  form_is (variants_found a0 a1) = a0
  form_is (type_form a0 a1) = refl

  -- Ints and Predef alone are no types, so nothing is found for them
  abbrev is_written_sort : F.Term-F Term → Bool
  is_written_sort (F.Sort Sort.Ints p) = false
  is_written_sort (F.Sort Sort.Predef p) = false
  is_written_sort d = true

  sort-type : {e : Term} {T : CType} → IsType items e T → is_written_sort (form e) ≡ true
  sort-type (text_type h) = ap is_written_sort h
  sort-type (type_of_types h) = ap is_written_sort h
  sort-type (type_of_parameters h) = ap is_written_sort h
  sort-type (numbers_to h i j k) = ap is_written_sort h
  sort-type (labels h i) = ap is_written_sort h
  sort-type (table_over h i j k l) = ap is_written_sort h
  sort-type (function_from h i j k) = ap is_written_sort h
  sort-type (pair_of h i) = ap is_written_sort h
  sort-type (parameters_named h i j) = ap is_written_sort h
  sort-type (oper_named n h i j k l) = ap is_written_sort h
  sort-type (definition_named n h i j k) = ap is_written_sort h

  sort-form : {e : Term} → IsTypeForm items e → is_written_sort (form e) ≡ true
  sort-form (a_type t) = sort-type t
  sort-form (some_numbers h i j) = ap is_written_sort h

  sort-found : {Γ : Scope} {e : Term} {T : CType} {t : LinTerm} → Finds items Γ e T t → is_written_sort (form e) ≡ true
  sort-found (type_form a0 a1) = sort-form a1
  sort-found (overloaded k (applied_to h s) a1 a2 a3 a4) = ap is_written_sort h
  sort-found (overloaded k (at_head n) a1 a2 a3 a4) = ap is_written_sort a1
  sort-found d = ap is_written_sort (form_is d)

  no-sort-found : {Γ : Scope} {e : Term} {T : CType} {t : LinTerm} {l : F.Term-F Term} → Finds items Γ e T t → form e ≡ l → is_written_sort l ≡ false → ⊥
  no-sort-found d h k = apart (sym k ∙ ap is_written_sort (sym h) ∙ sort-found d)

  no_ints : {Γ : Scope} {e d f a : Term} {S : CType} {t : LinTerm} {p : Place} → form e ≡ F.App f a p → Finds items Γ f S t → IsTypeForm items d → e ≡ d → ⊥
  no_ints k h t e = let i = ints-form t (ap form (sym e) ∙ k) in no-sort-found h i.1 refl

  -- what an overload gives is data, and what is applied is none
  taken-data : {F R : CType} {As : List CType} {t u : LinTerm} {us : List LinTerm} → Takes items F t As us R u → IsData R
  taken-data (takes_none d) = d
  taken-data (takes a s b c) = taken-data c

  suited-data : {w : Whole} {As : List CType} {us : List LinTerm} {k : ℕ} {R : CType} {u : LinTerm} → Suits items w As us k R u → IsData R
  suited-data (suits_by a0 a1 a2) = taken-data a2

  overload-found : {Γ : Scope} {f d h : Term} {es xs : List Term} {w : Whole} {p : Place} {T A B : CType} {t : LinTerm} →
      Finds items Γ f T t → Spine d es h xs → f ≡ d → form h ≡ F.Var (WholeName w) p → Stands items w an_overload → out-CType T ≡ C.Fun A B → ⊥
  overload-found (application a0 a1 a2 a3) (applied_to k s) q h o e = overload-found a1 s (cc) h o a2
  overload-found (application a0 a1 a2 a3) (at_head n) q h o e = n _ _ _ (ap form (sym q) ∙ a0)
  overload-found (overloaded k a0 a1 a2 a3 a4) s q h o e = suited-data a4.suits _ _ e
  overload-found (constructor_name a0 a1 a2 a3) (applied_to k s) q h o e = cc
  overload-found (constructor_name a0 a1 a2 a3) (at_head n) q h o e = cc
  overload-found (typed_oper m a0 a1 a2) (applied_to k s) q h o e = cc
  overload-found (typed_oper m a0 a1 a2) (at_head n) q h o e = cc
  overload-found (untyped_oper m a0 a1 a2) (applied_to k s) q h o e = cc
  overload-found (untyped_oper m a0 a1 a2) (at_head n) q h o e = cc
  overload-found (parameter_name a0 a1) s q h o e = let k = out-roll-CType C.TypeSort in cc
  overload-found (bare_parameter_name a0 a1) s q h o e = let k = out-roll-CType C.TypeSort in cc
  overload-found (type_form a0 a1) s q h o e = let k = out-roll-CType C.TypeSort in cc
  overload-found d (applied_to k s) q h o e = apart-tags _ _ refl (ap tag (sym k ∙ ap form (sym q) ∙ form_is d))
  overload-found d (at_head n) q h o e = apart-tags _ _ refl (ap tag (sym h ∙ ap form (sym q) ∙ form_is d))

  -- an overload is a name or an application
  not-overload : {e d h : Term} {es xs : List Term} {w : Whole} {p : Place} {l : F.Term-F Term} → Spine d es h xs → form h ≡ F.Var (WholeName w) p → form e ≡ l → e ≡ d → (tag l == 15) ≡ false → (tag l == 20) ≡ false → ⊥
  not-overload {l = l} (applied_to k s) h a q m n = apart-tags (tag l) 15 m (same-tag a q k)
  not-overload {l = l} (at_head k) h a q m n = apart-tags (tag l) 20 n (same-tag a q h)

  applies-none : {Γ : Scope} {e d f b c h a : Term} {es xs : List Term} {p q r : Place} {w : Whole} {S A B : CType} {t : LinTerm} →
      form e ≡ F.App c a q → Spine c es h xs → form d ≡ F.App f b p → e ≡ d → Finds items Γ f S t → out-CType S ≡ C.Fun A B → form h ≡ F.Var (WholeName w) r → Stands items w an_overload → ⊥
  applies-none k s l q d f h o = overload-found d s (cc) h o f

  abbrev pub check_form : {Γ : Scope} {e : Term} {T : CType} {t : LinTerm} → Checks items Γ e T t → F.Term-F Term
  check_form (lambda {b = b} {x = x} {p = p} a0 a1 a2) = F.Fun (x ∷ []) b p
  check_form (table_lambda {b = b} {x = x} {p = p} a0 a1 a2) = F.TabFun (x ∷ []) b p
  check_form (branches {D = D} {cs = cs} {p = p} a0 a1 a2 a3 a4) = F.TableOf D cs p
  check_form (listed {D = D} {es = es} {p = p} a0 a1 a2 a3 a4) = F.TableList D es p
  check_form (record_given {ls = ls} {p = p} a0 a1 a2 a3) = F.Fields ls p
  check_form (let_given {b = b} {ls = ls} {p = p} a0 a1 a2) = F.Let ls b p
  check_form (case_given {b = b} {cs = cs} {p = p} a0 a1 a2 a3) = F.CaseOf b cs p
  check_form (variants_given {es = es} {p = p} a0 a1) = F.Variants es p
  check_form (empty_type {p = p} a0) = F.Fields [] p
  check_form (parameter_given {w = w} {p = p} a0 a1 a2) = F.Var (WholeName w) p
  check_form (found {e = e} a0 a1 a2) = form e

  pub check_form_is : {Γ : Scope} {e : Term} {T : CType} {t : LinTerm} (d : Checks items Γ e T t) → form e ≡ check_form d
  check_form_is (lambda a0 a1 a2) = a0
  check_form_is (table_lambda a0 a1 a2) = a0
  check_form_is (branches a0 a1 a2 a3 a4) = a0
  check_form_is (listed a0 a1 a2 a3 a4) = a0
  check_form_is (record_given a0 a1 a2 a3) = a0
  check_form_is (let_given a0 a1 a2) = a0
  check_form_is (case_given a0 a1 a2 a3) = a0
  check_form_is (variants_given a0 a1) = a0
  check_form_is (empty_type a0) = a0
  check_form_is (parameter_given a0 a1 a2) = a0
  check_form_is (found a0 a1 a2) = refl

  pub fields-empty : {Γ : Scope} {gs fs : List (List ℕ × CType)} {ls : List (Local Term)} {ts : List (List ℕ × LinTerm)} → FieldsHave items Γ gs ls fs ts → ls ≡ [] → fs ≡ []
  fields-empty no_field e = refl
  fields-empty (value_given a0 a1 a2) e = cc
  fields-empty (value_found a0 a1 a2 a3) e = cc
  fields-empty (typed_given a0 a1 a2 a3 a4) e = cc
  fields-empty (typed_alone a0 a1 a2 a3 a4) e = cc

  -- fields as written are values
  pub all-values : {Γ : Scope} {gs fs : List (List ℕ × CType)} {ls : List (Local Term)} {ts : List (List ℕ × LinTerm)} → FieldsHave items Γ gs ls fs ts → list_all is_value ls ≡ true
  all-values no_field = refl
  all-values (value_given a0 a1 a2) = all-values a2
  all-values (value_found a0 a1 a2 a3) = all-values a3
  all-values (typed_given a0 a1 a2 a3 a4) = all-values a4
  all-values (typed_alone a0 a1 a2 a3 a4) = all-values a4

  -- {} is found to be the empty record
  empty-found : {Γ : Scope} {f : Term} {T : CType} {t : LinTerm} {p : Place} → Finds items Γ f T t → form f ≡ F.Fields [] p → T ≡ record_type []
  empty-found (variable a0 a1) h = cc
  empty-found (constructor_name a0 a1 a2 a3) h = cc
  empty-found (typed_oper ak a0 a1 a2) h = cc
  empty-found (untyped_oper ak a0 a1 a2) h = cc
  empty-found (overloaded ak (at_head an) a0 a1 none_found a2) h = cc
  empty-found (parameter_name a0 a1) h = cc
  empty-found (bare_parameter_name a0 a1) h = cc
  empty-found (literal a0) h = cc
  empty-found (append a0 a1 a2) h = cc
  empty-found (glue a0 a1 a2) h = cc
  empty-found (number a0) h = cc
  empty-found (predef a0 a1 a2) h = cc
  empty-found (projection a0 a1 a2 a3) h = cc
  empty-found (application a0 a1 a2 a3) h = cc
  empty-found (overloaded ak (applied_to ah asp) a1 a2 a3 a4) h = cc
  empty-found (selection a0 a1 a2 a3 a4) h = cc
  empty-found (branch_over a0 a1 a2 a3 a4 a5) h = cc
  empty-found (branch_of a0 a1 a2 a3 a4) h = cc
  empty-found (item_of a0 a1 a2 a3 a4 a5 a6) h = cc
  empty-found (case_found a0 a1 a2 a3) h = cc
  empty-found (table_found a0 a1 a2 a3 a4) h = cc
  empty-found (list_found a0 a1 a2 a3 a4) h = cc
  empty-found (record_found a0 a1) h = ap record_type (fields-empty a1 (cc))
  empty-found (extension a0 a1 a2 a3 a4) h = cc
  empty-found (typed a0 a1 a2) h = cc
  empty-found (let_found a0 a1 a2) h = cc
  empty-found (variants_found a0 a1) h = cc
  empty-found {p = p} (type_form a0 a1) h = let k : is_type_form (F.Fields [] p) ≡ true = ap is_type_form (sym h) ∙ form-typed a1 a0 in absurd (apart k)

  mutual
    pub find-once : {Γ Δ : Scope} {e f : Term} {S T : CType} {t u : LinTerm} → Finds items Γ e S t → Finds items Δ f T u → Γ ≡ Δ → e ≡ f → (S ≡ T) × (t ≡ u)
    find-once (variable a0 a1) (variable b0 b1) g e = (cc, cc)
    find-once (variable a0 a1) (type_form b0 b1) g e = let k : false ≡ true = ap is_type_form (sym a0 ∙ ap form e) ∙ form-typed b1 b0 in absurd (apart k)
    find-once (variable a0 a1) (overloaded bk b0 b1 b2 b3 b4) g e = absurd (not-overload b0 b1 a0 e refl refl)
    find-once (variable a0 a1) d g e = absurd (apart-tags _ _ refl (same-tag a0 e (form_is d)))
    find-once (constructor_name a0 a1 a2 a3) (constructor_name b0 b1 b2 b3) g e = let i = parameter-once items a2 b2 (cc) in let j = same-arguments a3 b3 i (cc) in (cc, cc)
    find-once (constructor_name a0 a1 a2 a3) (typed_oper bk b0 b1 b2) g e = (cc, cc)
    find-once (constructor_name a0 a1 a2 a3) (untyped_oper bk b0 b1 b2) g e = (cc, cc)
    find-once (constructor_name a0 a1 a2 a3) (overloaded bk (at_head bn) b0 b1 none_found b2) g e = (cc, cc)
    find-once (constructor_name a0 a1 a2 a3) (parameter_name b0 (parameter_of b1 b2 b3)) g e = (cc, cc)
    find-once (constructor_name a0 a1 a2 a3) (bare_parameter_name b0 b1) g e = (cc, cc)
    find-once (constructor_name a0 a1 a2 a3) (type_form b0 b1) g e = let k : false ≡ true = ap is_type_form (sym a0 ∙ ap form e) ∙ form-typed b1 b0 in absurd (apart k)
    find-once (constructor_name a0 a1 a2 a3) (overloaded bk (applied_to bh bsp) b1 b2 b3 b4) g e = absurd (apart-tags _ _ refl (same-tag a0 e bh))
    find-once (constructor_name a0 a1 a2 a3) d g e = absurd (apart-tags _ _ refl (same-tag a0 e (form_is d)))
    find-once (typed_oper ak a0 a1 a2) (typed_oper bk b0 b1 b2) g e = let i = type-once items a2 b2 (cc) in (i, cc)
    find-once (typed_oper ak a0 a1 a2) (constructor_name b0 b1 b2 b3) g e = (cc, cc)
    find-once (typed_oper ak a0 a1 a2) (untyped_oper bk b0 b1 b2) g e = (cc, cc)
    find-once (typed_oper ak a0 a1 a2) (overloaded bk (at_head bn) b0 b1 none_found b2) g e = (cc, cc)
    find-once (typed_oper ak a0 a1 a2) (parameter_name b0 (parameter_of b1 b2 b3)) g e = (cc, cc)
    find-once (typed_oper ak a0 a1 a2) (bare_parameter_name b0 b1) g e = (cc, cc)
    find-once (typed_oper ak a0 a1 a2) (type_form b0 b1) g e = let k : false ≡ true = ap is_type_form (sym a0 ∙ ap form e) ∙ form-typed b1 b0 in absurd (apart k)
    find-once (typed_oper ak a0 a1 a2) (overloaded bk (applied_to bh bsp) b1 b2 b3 b4) g e = absurd (apart-tags _ _ refl (same-tag a0 e bh))
    find-once (typed_oper ak a0 a1 a2) d g e = absurd (apart-tags _ _ refl (same-tag a0 e (form_is d)))
    find-once (untyped_oper ak a0 a1 a2) (untyped_oper bk b0 b1 b2) g e = let i = find-once a2 b2 refl (cc) in (i.0, cc)
    find-once (untyped_oper ak a0 a1 a2) (constructor_name b0 b1 b2 b3) g e = (cc, cc)
    find-once (untyped_oper ak a0 a1 a2) (typed_oper bk b0 b1 b2) g e = (cc, cc)
    find-once (untyped_oper ak a0 a1 a2) (overloaded bk (at_head bn) b0 b1 none_found b2) g e = (cc, cc)
    find-once (untyped_oper ak a0 a1 a2) (parameter_name b0 (parameter_of b1 b2 b3)) g e = (cc, cc)
    find-once (untyped_oper ak a0 a1 a2) (bare_parameter_name b0 b1) g e = (cc, cc)
    find-once (untyped_oper ak a0 a1 a2) (type_form b0 b1) g e = let k : false ≡ true = ap is_type_form (sym a0 ∙ ap form e) ∙ form-typed b1 b0 in absurd (apart k)
    find-once (untyped_oper ak a0 a1 a2) (overloaded bk (applied_to bh bsp) b1 b2 b3 b4) g e = absurd (apart-tags _ _ refl (same-tag a0 e bh))
    find-once (untyped_oper ak a0 a1 a2) d g e = absurd (apart-tags _ _ refl (same-tag a0 e (form_is d)))
    find-once (overloaded ak (at_head an) a0 a1 none_found a2) (overloaded bk (at_head bn) b0 b1 none_found b2) g e = chosen-once a2 b2 (cc) refl refl
    find-once (overloaded ak (at_head an) a0 a1 none_found a2) (constructor_name b0 b1 b2 b3) g e = (cc, cc)
    find-once (overloaded ak (at_head an) a0 a1 none_found a2) (typed_oper bk b0 b1 b2) g e = (cc, cc)
    find-once (overloaded ak (at_head an) a0 a1 none_found a2) (untyped_oper bk b0 b1 b2) g e = (cc, cc)
    find-once (overloaded ak (at_head an) a0 a1 none_found a2) (parameter_name b0 (parameter_of b1 b2 b3)) g e = (cc, cc)
    find-once (overloaded ak (at_head an) a0 a1 none_found a2) (bare_parameter_name b0 b1) g e = (cc, cc)
    find-once (overloaded ak (at_head an) a0 a1 none_found a2) (type_form b0 b1) g e = let k : false ≡ true = ap is_type_form (sym a0 ∙ ap form e) ∙ form-typed b1 b0 in absurd (apart k)
    find-once (overloaded ak (at_head an) a0 a1 none_found a2) d g e = absurd (apart-tags _ _ refl (same-tag a0 e (form_is d)))
    find-once (parameter_name a0 a1) (parameter_name b0 b1) g e = (refl, refl)
    find-once (parameter_name a0 (parameter_of a1 a2 a3)) (bare_parameter_name b0 b1) g e = (cc, cc)
    find-once (parameter_name a0 (parameter_of a1 a2 a3)) (constructor_name b0 b1 b2 b3) g e = (cc, cc)
    find-once (parameter_name a0 (parameter_of a1 a2 a3)) (typed_oper bk b0 b1 b2) g e = (cc, cc)
    find-once (parameter_name a0 (parameter_of a1 a2 a3)) (untyped_oper bk b0 b1 b2) g e = (cc, cc)
    find-once (parameter_name a0 (parameter_of a1 a2 a3)) (overloaded bk (at_head bn) b0 b1 none_found b2) g e = (cc, cc)
    find-once (parameter_name a0 a1) (type_form b0 b1) g e = let k : false ≡ true = ap is_type_form (sym a0 ∙ ap form e) ∙ form-typed b1 b0 in absurd (apart k)
    find-once (parameter_name a0 a1) (overloaded bk (applied_to bh bsp) b1 b2 b3 b4) g e = absurd (apart-tags _ _ refl (same-tag a0 e bh))
    find-once (parameter_name a0 a1) d g e = absurd (apart-tags _ _ refl (same-tag a0 e (form_is d)))
    find-once (bare_parameter_name a0 a1) (bare_parameter_name b0 b1) g e = (refl, refl)
    find-once (bare_parameter_name a0 a1) (parameter_name b0 (parameter_of b1 b2 b3)) g e = (cc, cc)
    find-once (bare_parameter_name a0 a1) (constructor_name b0 b1 b2 b3) g e = (cc, cc)
    find-once (bare_parameter_name a0 a1) (typed_oper bk b0 b1 b2) g e = (cc, cc)
    find-once (bare_parameter_name a0 a1) (untyped_oper bk b0 b1 b2) g e = (cc, cc)
    find-once (bare_parameter_name a0 a1) (overloaded bk (at_head bn) b0 b1 none_found b2) g e = (cc, cc)
    find-once (bare_parameter_name a0 a1) (type_form b0 b1) g e = let k : false ≡ true = ap is_type_form (sym a0 ∙ ap form e) ∙ form-typed b1 b0 in absurd (apart k)
    find-once (bare_parameter_name a0 a1) (overloaded bk (applied_to bh bsp) b1 b2 b3 b4) g e = absurd (apart-tags _ _ refl (same-tag a0 e bh))
    find-once (bare_parameter_name a0 a1) d g e = absurd (apart-tags _ _ refl (same-tag a0 e (form_is d)))
    find-once (literal a0) (literal b0) g e = (refl, cc)
    find-once (literal a0) (type_form b0 b1) g e = let k : false ≡ true = ap is_type_form (sym a0 ∙ ap form e) ∙ form-typed b1 b0 in absurd (apart k)
    find-once (literal a0) (overloaded bk b0 b1 b2 b3 b4) g e = absurd (not-overload b0 b1 a0 e refl refl)
    find-once (literal a0) d g e = absurd (apart-tags _ _ refl (same-tag a0 e (form_is d)))
    find-once (append a0 a1 a2) (append b0 b1 b2) g e = let i = check-once a1 b1 g (cc) refl in let j = check-once a2 b2 g (cc) refl in (refl, cc)
    find-once (append a0 a1 a2) (type_form b0 b1) g e = let k : false ≡ true = ap is_type_form (sym a0 ∙ ap form e) ∙ form-typed b1 b0 in absurd (apart k)
    find-once (append a0 a1 a2) (overloaded bk b0 b1 b2 b3 b4) g e = absurd (not-overload b0 b1 a0 e refl refl)
    find-once (append a0 a1 a2) d g e = absurd (apart-tags _ _ refl (same-tag a0 e (form_is d)))
    find-once (glue a0 a1 a2) (glue b0 b1 b2) g e = let i = check-once a1 b1 g (cc) refl in let j = check-once a2 b2 g (cc) refl in (refl, cc)
    find-once (glue a0 a1 a2) (type_form b0 b1) g e = let k : false ≡ true = ap is_type_form (sym a0 ∙ ap form e) ∙ form-typed b1 b0 in absurd (apart k)
    find-once (glue a0 a1 a2) (overloaded bk b0 b1 b2 b3 b4) g e = absurd (not-overload b0 b1 a0 e refl refl)
    find-once (glue a0 a1 a2) d g e = absurd (apart-tags _ _ refl (same-tag a0 e (form_is d)))
    find-once (number a0) (number b0) g e = (cc, cc)
    find-once (number a0) (type_form b0 b1) g e = let k : false ≡ true = ap is_type_form (sym a0 ∙ ap form e) ∙ form-typed b1 b0 in absurd (apart k)
    find-once (number a0) (overloaded bk b0 b1 b2 b3 b4) g e = absurd (not-overload b0 b1 a0 e refl refl)
    find-once (number a0) d g e = absurd (apart-tags _ _ refl (same-tag a0 e (form_is d)))
    find-once (predef a0 a1 a2) (predef b0 b1 b2) g e = (refl, cc)
    find-once (predef a0 a1 a2) (projection b0 b1 b2 b3) g e = absurd (no-sort-found b1 (apart-heads a0 b0 e a1) refl)
    find-once (predef a0 a1 a2) (type_form b0 b1) g e = let k : false ≡ true = ap is_type_form (sym a0 ∙ ap form e) ∙ form-typed b1 b0 in absurd (apart k)
    find-once (predef a0 a1 a2) (overloaded bk b0 b1 b2 b3 b4) g e = absurd (not-overload b0 b1 a0 e refl refl)
    find-once (predef a0 a1 a2) d g e = absurd (apart-tags _ _ refl (same-tag a0 e (form_is d)))
    find-once (projection a0 a1 a2 a3) (projection b0 b1 b2 b3) g e = let i = find-once a1 b1 g (cc) in (cc, cc)
    find-once (projection a0 a1 a2 a3) (predef b0 b1 b2) g e = absurd (no-sort-found a1 (apart-heads b0 a0 (sym e) b1) refl)
    find-once (projection a0 a1 a2 a3) (type_form b0 b1) g e = let k : false ≡ true = ap is_type_form (sym a0 ∙ ap form e) ∙ form-typed b1 b0 in absurd (apart k)
    find-once (projection a0 a1 a2 a3) (overloaded bk b0 b1 b2 b3 b4) g e = absurd (not-overload b0 b1 a0 e refl refl)
    find-once (projection a0 a1 a2 a3) d g e = absurd (apart-tags _ _ refl (same-tag a0 e (form_is d)))
    find-once (application a0 a1 a2 a3) (application b0 b1 b2 b3) g e = let i = find-once a1 b1 g (cc) in let j = check-once a3 b3 g (cc) (cc) in (cc, cc)
    find-once (application a0 a1 a2 a3) (overloaded bk (applied_to bh bsp) b1 b2 b3 b4) g e = absurd (applies-none bh bsp a0 (sym e) a1 a2 b1 b2)
    find-once (application a0 a1 a2 a3) (type_form b0 b1) g e = absurd (no_ints a0 a1 b1 e)
    find-once (application a0 a1 a2 a3) (overloaded bk (at_head bn) b1 b2 b3 b4) g e = absurd (apart-tags _ _ refl (same-tag a0 e b1))
    find-once (application a0 a1 a2 a3) d g e = absurd (apart-tags _ _ refl (same-tag a0 e (form_is d)))
    find-once (overloaded ak (applied_to ah asp) a1 a2 a3 a4) (overloaded bk (applied_to bh bsp) b1 b2 b3 b4) g e = let s = spine-once (applied_to ah asp) (applied_to bh bsp) e refl in let i = all-once a3 b3 g s.1 in chosen-once a4 b4 (cc) i.0 i.1
    find-once (overloaded ak (applied_to ah asp) a1 a2 a3 a4) (application b0 b1 b2 b3) g e = absurd (applies-none ah asp b0 e b1 b2 a1 a2)
    find-once (overloaded ak (applied_to ah asp) a1 a2 a3 a4) (type_form b0 b1) g e = absurd (no_ints_var ah asp a1 b1 e)
    find-once (overloaded ak (applied_to ah asp) a1 a2 a3 a4) d g e = absurd (apart-tags _ _ refl (same-tag ah e (form_is d)))
    find-once (selection a0 a1 a2 a3 a4) (selection b0 b1 b2 b3 b4) g e = let i = find-once a2 b2 g (cc) in let j = check-once a4 b4 g (cc) (cc) in (cc, cc)
    find-once (selection a0 a1 a2 a3 a4) (branch_over b0 b1 b2 b3 b4 b5) g e = absurd (apart-tables a0 b0 e a1 (ap is_table_expression b1))
    find-once (selection a0 a1 a2 a3 a4) (branch_of b0 b1 b2 b3 b4) g e = absurd (apart-tables a0 b0 e a1 (ap is_table_expression b1))
    find-once (selection a0 a1 a2 a3 a4) (item_of b0 b1 b2 b3 b4 b5 b6) g e = absurd (apart-tables a0 b0 e a1 (ap is_table_expression b1))
    find-once (selection a0 a1 a2 a3 a4) (type_form b0 b1) g e = let k : false ≡ true = ap is_type_form (sym a0 ∙ ap form e) ∙ form-typed b1 b0 in absurd (apart k)
    find-once (selection a0 a1 a2 a3 a4) (overloaded bk b0 b1 b2 b3 b4) g e = absurd (not-overload b0 b1 a0 e refl refl)
    find-once (selection a0 a1 a2 a3 a4) d g e = absurd (apart-tags _ _ refl (same-tag a0 e (form_is d)))
    find-once (branch_over a0 a1 a2 a3 a4 a5) (branch_over b0 b1 b2 b3 b4 b5) g e = let i = type-once items a2 b2 (cc) in let j = branches-found a3 b3 g i (cc) in let l = check-once a5 b5 g (cc) i in (j.0, cc)
    find-once (branch_over a0 a1 a2 a3 a4 a5) (selection b0 b1 b2 b3 b4) g e = absurd (apart-tables b0 a0 (sym e) b1 (ap is_table_expression a1))
    find-once (branch_over a0 a1 a2 a3 a4 a5) (branch_of b0 b1 b2 b3 b4) g e = (cc, cc)
    find-once (branch_over a0 a1 a2 a3 a4 a5) (item_of b0 b1 b2 b3 b4 b5 b6) g e = (cc, cc)
    find-once (branch_over a0 a1 a2 a3 a4 a5) (type_form b0 b1) g e = let k : false ≡ true = ap is_type_form (sym a0 ∙ ap form e) ∙ form-typed b1 b0 in absurd (apart k)
    find-once (branch_over a0 a1 a2 a3 a4 a5) (overloaded bk b0 b1 b2 b3 b4) g e = absurd (not-overload b0 b1 a0 e refl refl)
    find-once (branch_over a0 a1 a2 a3 a4 a5) d g e = absurd (apart-tags _ _ refl (same-tag a0 e (form_is d)))
    find-once (branch_of a0 a1 a2 a3 a4) (branch_of b0 b1 b2 b3 b4) g e = let i = find-once a2 b2 g (cc) in let j = branches-found a3 b3 g i.0 (cc) in (j.0, cc)
    find-once (branch_of a0 a1 a2 a3 a4) (selection b0 b1 b2 b3 b4) g e = absurd (apart-tables b0 a0 (sym e) b1 (ap is_table_expression a1))
    find-once (branch_of a0 a1 a2 a3 a4) (branch_over b0 b1 b2 b3 b4 b5) g e = (cc, cc)
    find-once (branch_of a0 a1 a2 a3 a4) (item_of b0 b1 b2 b3 b4 b5 b6) g e = (cc, cc)
    find-once (branch_of a0 a1 a2 a3 a4) (type_form b0 b1) g e = let k : false ≡ true = ap is_type_form (sym a0 ∙ ap form e) ∙ form-typed b1 b0 in absurd (apart k)
    find-once (branch_of a0 a1 a2 a3 a4) (overloaded bk b0 b1 b2 b3 b4) g e = absurd (not-overload b0 b1 a0 e refl refl)
    find-once (branch_of a0 a1 a2 a3 a4) d g e = absurd (apart-tags _ _ refl (same-tag a0 e (form_is d)))
    find-once (item_of a0 a1 a2 a3 a4 a5 a6) (item_of b0 b1 b2 b3 b4 b5 b6) g e = let i = type-once items a2 b2 (cc) in let j = members-found a4 b4 g (cc) in let l = check-once a6 b6 g (cc) i in (j.0, cc)
    find-once (item_of a0 a1 a2 a3 a4 a5 a6) (selection b0 b1 b2 b3 b4) g e = absurd (apart-tables b0 a0 (sym e) b1 (ap is_table_expression a1))
    find-once (item_of a0 a1 a2 a3 a4 a5 a6) (branch_over b0 b1 b2 b3 b4 b5) g e = (cc, cc)
    find-once (item_of a0 a1 a2 a3 a4 a5 a6) (branch_of b0 b1 b2 b3 b4) g e = (cc, cc)
    find-once (item_of a0 a1 a2 a3 a4 a5 a6) (type_form b0 b1) g e = let k : false ≡ true = ap is_type_form (sym a0 ∙ ap form e) ∙ form-typed b1 b0 in absurd (apart k)
    find-once (item_of a0 a1 a2 a3 a4 a5 a6) (overloaded bk b0 b1 b2 b3 b4) g e = absurd (not-overload b0 b1 a0 e refl refl)
    find-once (item_of a0 a1 a2 a3 a4 a5 a6) d g e = absurd (apart-tags _ _ refl (same-tag a0 e (form_is d)))
    find-once (case_found a0 a1 a2 a3) (case_found b0 b1 b2 b3) g e = let i = find-once a1 b1 g (cc) in let j = branches-found a2 b2 g i.0 (cc) in (j.0, cc)
    find-once (case_found a0 a1 a2 a3) (type_form b0 b1) g e = let k : false ≡ true = ap is_type_form (sym a0 ∙ ap form e) ∙ form-typed b1 b0 in absurd (apart k)
    find-once (case_found a0 a1 a2 a3) (overloaded bk b0 b1 b2 b3 b4) g e = absurd (not-overload b0 b1 a0 e refl refl)
    find-once (case_found a0 a1 a2 a3) d g e = absurd (apart-tags _ _ refl (same-tag a0 e (form_is d)))
    find-once (table_found a0 a1 a2 a3 a4) (table_found b0 b1 b2 b3 b4) g e = let i = type-once items a1 b1 (cc) in let j = branches-found a3 b3 g i (cc) in (cc, cc)
    find-once (table_found a0 a1 a2 a3 a4) (type_form b0 b1) g e = let k : false ≡ true = ap is_type_form (sym a0 ∙ ap form e) ∙ form-typed b1 b0 in absurd (apart k)
    find-once (table_found a0 a1 a2 a3 a4) (overloaded bk b0 b1 b2 b3 b4) g e = absurd (not-overload b0 b1 a0 e refl refl)
    find-once (table_found a0 a1 a2 a3 a4) d g e = absurd (apart-tags _ _ refl (same-tag a0 e (form_is d)))
    find-once (list_found a0 a1 a2 a3 a4) (list_found b0 b1 b2 b3 b4) g e = let i = type-once items a1 b1 (cc) in let j = members-found a3 b3 g (cc) in (cc, cc)
    find-once (list_found a0 a1 a2 a3 a4) (type_form b0 b1) g e = let k : false ≡ true = ap is_type_form (sym a0 ∙ ap form e) ∙ form-typed b1 b0 in absurd (apart k)
    find-once (list_found a0 a1 a2 a3 a4) (overloaded bk b0 b1 b2 b3 b4) g e = absurd (not-overload b0 b1 a0 e refl refl)
    find-once (list_found a0 a1 a2 a3 a4) d g e = absurd (apart-tags _ _ refl (same-tag a0 e (form_is d)))
    find-once (record_found a0 a1) (record_found b0 b1) g e = let i = fields-have a1 b1 g refl (cc) in (cc, cc)
    find-once (record_found a0 a1) (type_form b0 b1) g e = absurd (no_record a0 a1 b0 b1 e)
    find-once (record_found a0 a1) (overloaded bk b0 b1 b2 b3 b4) g e = absurd (not-overload b0 b1 a0 e refl refl)
    find-once (record_found a0 a1) d g e = absurd (apart-tags _ _ refl (same-tag a0 e (form_is d)))
    find-once (extension a0 a1 a2 a3 a4) (extension b0 b1 b2 b3 b4) g e = let i = find-once a1 b1 g (cc) in let j = find-once a3 b3 g (cc) in (same-extension i.0 j.0 a2 a4 b2 b4, cc)
    find-once (extension a0 a1 a2 a3 a4) (type_form b0 b1) g e = let k : false ≡ true = ap is_type_form (sym a0 ∙ ap form e) ∙ form-typed b1 b0 in absurd (apart k)
    find-once (extension a0 a1 a2 a3 a4) (overloaded bk b0 b1 b2 b3 b4) g e = absurd (not-overload b0 b1 a0 e refl refl)
    find-once (extension a0 a1 a2 a3 a4) d g e = absurd (apart-tags _ _ refl (same-tag a0 e (form_is d)))
    find-once (typed a0 a1 a2) (typed b0 b1 b2) g e = let i = type-once items a1 b1 (cc) in let j = check-once a2 b2 g (cc) i in (i, j)
    find-once (typed a0 a1 a2) (type_form b0 b1) g e = let k : false ≡ true = ap is_type_form (sym a0 ∙ ap form e) ∙ form-typed b1 b0 in absurd (apart k)
    find-once (typed a0 a1 a2) (overloaded bk b0 b1 b2 b3 b4) g e = absurd (not-overload b0 b1 a0 e refl refl)
    find-once (typed a0 a1 a2) d g e = absurd (apart-tags _ _ refl (same-tag a0 e (form_is d)))
    find-once (let_found a0 a1 a2) (let_found b0 b1 b2) g e = let i = defines-once a1 b1 g (cc) in let j = find-once a2 b2 i.0 (cc) in (j.0, cc)
    find-once (let_found a0 a1 a2) (type_form b0 b1) g e = let k : false ≡ true = ap is_type_form (sym a0 ∙ ap form e) ∙ form-typed b1 b0 in absurd (apart k)
    find-once (let_found a0 a1 a2) (overloaded bk b0 b1 b2 b3 b4) g e = absurd (not-overload b0 b1 a0 e refl refl)
    find-once (let_found a0 a1 a2) d g e = absurd (apart-tags _ _ refl (same-tag a0 e (form_is d)))
    find-once (variants_found a0 a1) (variants_found b0 b1) g e = let i = members-found a1 b1 g (cc) in (i.0, cc)
    find-once (variants_found a0 a1) (type_form b0 b1) g e = let k : false ≡ true = ap is_type_form (sym a0 ∙ ap form e) ∙ form-typed b1 b0 in absurd (apart k)
    find-once (variants_found a0 a1) (overloaded bk b0 b1 b2 b3 b4) g e = absurd (not-overload b0 b1 a0 e refl refl)
    find-once (variants_found a0 a1) d g e = absurd (apart-tags _ _ refl (same-tag a0 e (form_is d)))
    find-once (type_form a0 a1) (type_form b0 b1) g e = (refl, refl)
    find-once (type_form a0 a1) (application b0 b1 b2 b3) g e = absurd (no_ints b0 b1 a1 (sym e))
    find-once (type_form a0 a1) (overloaded bk (applied_to bh bsp) b1 b2 b3 b4) g e = absurd (no_ints_var bh bsp b1 a1 (sym e))
    find-once (type_form a0 a1) (record_found b0 b1) g e = absurd (no_record b0 b1 a0 a1 (sym e))
    find-once (type_form a0 a1) d g e = let k : is_type_form (form_of d) ≡ true = ap is_type_form (sym (form_is d) ∙ ap form (sym e)) ∙ form-typed a1 a0 in absurd (apart k)

    pub check-once : {Γ Δ : Scope} {e f : Term} {S T : CType} {t u : LinTerm} → Checks items Γ e S t → Checks items Δ f T u → Γ ≡ Δ → e ≡ f → S ≡ T → t ≡ u
    check-once (found a0 a1 a2) (found b0 b1 b2) g e s = let i = find-once a1 b1 g e in fits-same a2 b2 i.0 s i.1
    check-once (lambda a0 a1 a2) (lambda b0 b1 b2) g e s = let i = check-once a2 b2 (cc) (cc) (cc) in cc
    check-once (found a0 a1 a2) (lambda b0 b1 b2) g e s = absurd (passes-clash b0 (sym e) (sym s) refl a0)
    check-once (lambda a0 a1 a2) (found b0 b1 b2) g e s = absurd (passes-clash a0 e s refl b0)
    check-once (lambda a0 a1 a2) d g e s = absurd (apart-tags _ _ refl (same-tag a0 e (check_form_is d)))
    check-once (table_lambda a0 a1 a2) (table_lambda b0 b1 b2) g e s = let i = check-once a2 b2 (cc) (cc) (cc) in cc
    check-once (found a0 a1 a2) (table_lambda b0 b1 b2) g e s = absurd (passes-clash b0 (sym e) (sym s) refl a0)
    check-once (table_lambda a0 a1 a2) (found b0 b1 b2) g e s = absurd (passes-clash a0 e s refl b0)
    check-once (table_lambda a0 a1 a2) d g e s = absurd (apart-tags _ _ refl (same-tag a0 e (check_form_is d)))
    check-once (branches a0 a1 a2 a3 a4) (branches b0 b1 b2 b3 b4) g e s = let i = branches-checked a3 b3 g (cc) (cc) (cc) in cc
    check-once (found a0 a1 a2) (branches {D = D} {cs = cs} {p = p} b0 b1 b2 b3 b4) g e s = absurd (passes-clash b0 (sym e) (sym s) (branches-pass D cs p _ b1) a0)
    check-once (branches {D = D} {cs = cs} {p = p} a0 a1 a2 a3 a4) (found b0 b1 b2) g e s = absurd (passes-clash a0 e s (branches-pass D cs p _ a1) b0)
    check-once (branches a0 a1 a2 a3 a4) d g e s = absurd (apart-tags _ _ refl (same-tag a0 e (check_form_is d)))
    check-once (listed a0 a1 a2 a3 a4) (listed b0 b1 b2 b3 b4) g e s = let i = members-checked a3 b3 g (cc) (cc) in cc
    check-once (found a0 a1 a2) (listed b0 b1 b2 b3 b4) g e s = absurd (passes-clash b0 (sym e) (sym s) (table-passes _ b1) a0)
    check-once (listed a0 a1 a2 a3 a4) (found b0 b1 b2) g e s = absurd (passes-clash a0 e s (table-passes _ a1) b0)
    check-once (listed a0 a1 a2 a3 a4) d g e s = absurd (apart-tags _ _ refl (same-tag a0 e (check_form_is d)))
    check-once (record_given a0 a1 a2 a3) (record_given b0 b1 b2 b3) g e s = let i = fields-have a2 b2 g (cc) (cc) in fits-same a3 b3 (cc) s (cc)
    check-once (found a0 a1 a2) (record_given {ls = ls} {p = p} b0 b1 b2 b3) g e s = absurd (passes-clash b0 (sym e) (sym s) (record-passes ls p _ (all-values b2) b1) a0)
    check-once (record_given {ls = ls} {p = p} a0 a1 a2 a3) (found b0 b1 b2) g e s = absurd (passes-clash a0 e s (record-passes ls p _ (all-values a2) a1) b0)
    check-once (record_given a0 a1 a2 a3) (empty_type b0) g e s = let i = out-roll-CType C.TypeSort in cc
    check-once (record_given a0 a1 a2 a3) d g e s = absurd (apart-tags _ _ refl (same-tag a0 e (check_form_is d)))
    check-once (let_given a0 a1 a2) (let_given b0 b1 b2) g e s = let i = defines-once a1 b1 g (cc) in same-lets i.1 (check-once a2 b2 i.0 (cc) s)
    check-once (found a0 a1 a2) (let_given b0 b1 b2) g e s = absurd (passes-clash b0 (sym e) (sym s) refl a0)
    check-once (let_given a0 a1 a2) (found b0 b1 b2) g e s = absurd (passes-clash a0 e s refl b0)
    check-once (let_given a0 a1 a2) d g e s = absurd (apart-tags _ _ refl (same-tag a0 e (check_form_is d)))
    check-once (case_given a0 a1 a2 a3) (case_given b0 b1 b2 b3) g e s = let i = find-once a1 b1 g (cc) in let j = branches-checked a2 b2 g i.0 (cc) s in cc
    check-once (found a0 a1 a2) (case_given b0 b1 b2 b3) g e s = absurd (passes-clash b0 (sym e) (sym s) refl a0)
    check-once (case_given a0 a1 a2 a3) (found b0 b1 b2) g e s = absurd (passes-clash a0 e s refl b0)
    check-once (case_given a0 a1 a2 a3) d g e s = absurd (apart-tags _ _ refl (same-tag a0 e (check_form_is d)))
    check-once (variants_given a0 a1) (variants_given b0 b1) g e s = let i = members-checked a1 b1 g (cc) s in cc
    check-once (found a0 a1 a2) (variants_given b0 b1) g e s = absurd (passes-clash b0 (sym e) (sym s) refl a0)
    check-once (variants_given a0 a1) (found b0 b1 b2) g e s = absurd (passes-clash a0 e s refl b0)
    check-once (variants_given a0 a1) d g e s = absurd (apart-tags _ _ refl (same-tag a0 e (check_form_is d)))
    check-once (empty_type a0) (empty_type b0) g e s = refl
    check-once (found a0 a1 a2) (empty_type b0) g e s = let i = empty-found a1 (ap form e ∙ b0) in absurd (no-fit_record a2 (ap out-CType i ∙ out-roll-CType (C.Record []), ap out-CType s ∙ out-roll-CType C.TypeSort))
    check-once (empty_type a0) (found b0 b1 b2) g e s = let i = empty-found b1 (ap form (sym e) ∙ a0) in absurd (no-fit_record b2 (ap out-CType i ∙ out-roll-CType (C.Record []), ap out-CType (sym s) ∙ out-roll-CType C.TypeSort))
    check-once (empty_type a0) (record_given b0 b1 b2 b3) g e s = let i = out-roll-CType C.TypeSort in cc
    check-once (empty_type a0) d g e s = absurd (apart-tags _ _ refl (same-tag a0 e (check_form_is d)))
    check-once (parameter_given a0 a1 a2) (parameter_given b0 b1 b2) g e s = (find-once a1 b1 g e).1
    check-once (found a0 a1 a2) (parameter_given b0 b1 b2) g e s = let i = find-once a1 b1 g e in absurd (no-fit a2 (ap out-CType i.0 ∙ out-roll-CType C.TypeSort, ap out-CType s ∙ out-roll-CType C.ParamSort))
    check-once (parameter_given a0 a1 a2) (found b0 b1 b2) g e s = let i = find-once a1 b1 g e in absurd (no-fit b2 (ap out-CType (sym i.0) ∙ out-roll-CType C.TypeSort, ap out-CType (sym s) ∙ out-roll-CType C.ParamSort))
    check-once (parameter_given a0 a1 a2) d g e s = absurd (apart-tags _ _ refl (same-tag a0 e (check_form_is d)))

    all-once : {Γ Δ : Scope} {es ds : List Term} {As Bs : List CType} {us vs : List LinTerm} → FindsAll items Γ es As us → FindsAll items Δ ds Bs vs → Γ ≡ Δ → es ≡ ds → (As ≡ Bs) × (us ≡ vs)
    all-once none_found none_found g e = (refl, refl)
    all-once none_found (next_found b0 b1) g e = (cc, cc)
    all-once (next_found a0 a1) none_found g e = (cc, cc)
    all-once (next_found a0 a1) (next_found b0 b1) g e = let i = find-once a0 b0 g (cc) in let j = all-once a1 b1 g (cc) in (cc, cc)

    members-found : {Γ Δ : Scope} {es ds : List Term} {S T : CType} {ts us : List LinTerm} → MembersFind items Γ es S ts → MembersFind items Δ ds T us → Γ ≡ Δ → es ≡ ds → (S ≡ T) × (ts ≡ us)
    members-found (first_member a0 a1 a2) (first_member b0 b1 b2) g e = let i = find-once a0 b0 g (cc) in let j = members-checked a2 b2 g (cc) i.0 in (i.0, cc)

    members-checked : {Γ Δ : Scope} {es ds : List Term} {S T : CType} {ts us : List LinTerm} → MembersCheck items Γ es S ts → MembersCheck items Δ ds T us → Γ ≡ Δ → es ≡ ds → S ≡ T → ts ≡ us
    members-checked no_member no_member g e s = refl
    members-checked no_member (member b0 b1 b2) g e s = cc
    members-checked (member a0 a1 a2) no_member g e s = cc
    members-checked (member a0 a1 a2) (member b0 b1 b2) g e s = let i = check-once a0 b0 g (cc) s in let j = members-checked a2 b2 g (cc) s in cc

    branches-found : {Γ Δ : Scope} {P Q V W : CType} {cs ds : List (Case Term)} {bs es : List (Pattern × LinTerm)} → BranchesFind items Γ P cs V bs → BranchesFind items Δ Q ds W es → Γ ≡ Δ → P ≡ Q → cs ≡ ds → (V ≡ W) × (bs ≡ es)
    branches-found (first_branch {c = c} a0 a1 a2 a3) (first_branch {c = d} b0 b1 b2 b3) g p e =
        let k : c ≡ d = cc in let l = ap (λ (x : Case Term). x.pattern) k in
        let h = fits-once a0 b0 p l in
        let i = find-once a1 b1 (cc) (ap (λ (x : Case Term). x.body) k) in let j = branches-checked a3 b3 g p (cc) i.0 in (i.0, cc)

    branches-checked : {Γ Δ : Scope} {P Q V W : CType} {cs ds : List (Case Term)} {bs es : List (Pattern × LinTerm)} → BranchesCheck items Γ P cs V bs → BranchesCheck items Δ Q ds W es → Γ ≡ Δ → P ≡ Q → cs ≡ ds → V ≡ W → bs ≡ es
    branches-checked no_branch no_branch g p e v = refl
    branches-checked no_branch (branch b0 b1 b2 b3) g p e v = cc
    branches-checked (branch a0 a1 a2 a3) no_branch g p e v = cc
    branches-checked (branch {c = c} a0 a1 a2 a3) (branch {c = d} b0 b1 b2 b3) g p e v =
        let k : c ≡ d = cc in let l = ap (λ (x : Case Term). x.pattern) k in
        let h = fits-once a0 b0 p l in
        let i = check-once a1 b1 (cc) (ap (λ (x : Case Term). x.body) k) v in let j = branches-checked a3 b3 g p (cc) v in cc

    fields-have : {Γ Δ : Scope} {gs hs fs es : List (List ℕ × CType)} {ls ks : List (Local Term)} {ts us : List (List ℕ × LinTerm)} → FieldsHave items Γ gs ls fs ts → FieldsHave items Δ hs ks es us → Γ ≡ Δ → gs ≡ hs → ls ≡ ks → (fs ≡ es) × (ts ≡ us)
    fields-have no_field no_field g h e = (refl, refl)
    fields-have no_field d g h e = (cc, cc)
    fields-have (value_given a0 a1 a2) (value_given b0 b1 b2) g h e = let i = check-once a1 b1 g (cc) (cc) in let j = fields-have a2 b2 g h (cc) in (cc, cc)
    fields-have (value_given a0 a1 a2) (value_found b0 b1 b2 b3) g h e = (cc, cc)
    fields-have (value_given a0 a1 a2) d g h e = (cc, cc)
    fields-have (value_found a0 a1 a2 a3) (value_found b0 b1 b2 b3) g h e = let i = find-once a1 b1 g (cc) in let j = fields-have a3 b3 g h (cc) in (cc, cc)
    fields-have (value_found a0 a1 a2 a3) (value_given b0 b1 b2) g h e = (cc, cc)
    fields-have (value_found a0 a1 a2 a3) d g h e = (cc, cc)
    fields-have (typed_given a0 a1 a2 a3 a4) (typed_given b0 b1 b2 b3 b4) g h e =
        let k = type-once items a1 b1 (cc) in let i = check-once a2 b2 g (cc) k in let l = fits-same a3 b3 k (cc) i in let j = fields-have a4 b4 g h (cc) in (cc, cc)
    fields-have (typed_given a0 a1 a2 a3 a4) (typed_alone b0 b1 b2 b3 b4) g h e = (cc, cc)
    fields-have (typed_given a0 a1 a2 a3 a4) d g h e = (cc, cc)
    fields-have (typed_alone a0 a1 a2 a3 a4) (typed_alone b0 b1 b2 b3 b4) g h e =
        let k = type-once items a1 b1 (cc) in let i = check-once a3 b3 g (cc) k in let j = fields-have a4 b4 g h (cc) in (cc, cc)
    fields-have (typed_alone a0 a1 a2 a3 a4) (typed_given b0 b1 b2 b3 b4) g h e = (cc, cc)
    fields-have (typed_alone a0 a1 a2 a3 a4) d g h e = (cc, cc)

    defines-once : {Γ Δ Θ Λ : Scope} {ls ks : List (Local Term)} {ds es : List (List (List ℕ) × LinTerm)} → Defines items Γ ls Θ ds → Defines items Δ ks Λ es → Γ ≡ Δ → ls ≡ ks → (Θ ≡ Λ) × (ds ≡ es)
    defines-once no_local no_local g e = (g, refl)
    defines-once no_local d g e = (cc, cc)
    defines-once (local {Γ = Γ} {xs = xs} {T = T} a0 a2) (local {Γ = Δ} {xs = ys} {T = U} b0 b2) g e =
        let l : xs ≡ ys = cc in let i = find-once a0 b0 g (cc) in
        let n : with_names xs T Γ ≡ with_names ys U Δ = same-names l i.0 g in
        let j = defines-once a2 b2 n (cc) in (j.0, cc)
    defines-once (local a0 a2) d g e = (cc, cc)
    defines-once (typed_local {Γ = Γ} {xs = xs} {T = T} a0 a2 a3) (typed_local {Γ = Δ} {xs = ys} {T = U} b0 b2 b3) g e =
        let l : xs ≡ ys = cc in let k = type-once items a0 b0 (cc) in let i = check-once a2 b2 g (cc) k in
        let n : with_names xs T Γ ≡ with_names ys U Δ = same-names l k g in
        let j = defines-once a3 b3 n (cc) in (j.0, cc)
    defines-once (typed_local a0 a2 a3) d g e = (cc, cc)
