-- A worked example of a language that is accepted: that of EEng, with its resolved grammar as it is typed.
use Rattle.std.proofs.Common.{◌≡◌, ap, sym, ◌∙◌, refl, ℕ, zero, suc, true, false, List, [], ◌∷◌, length, Option, Some, subst, arith}
use Rattle.std.specs.Prelude.{codes, slice_get, Contains}
use Rattle.gft_syntax.specs.declared.ctype.CType.{CType, out-CType}
use Rattle.gft_syntax.specs.declared.ctype.CType.TheOpen as C
use Rattle.gft_syntax.specs.declared.ctype.CType.TheViews.{out-roll-CType}
use Rattle.gft_syntax.specs.declared.flat.Flat.{Flat}
use Rattle.gft_syntax.specs.declared.flat.FlatJudgement.{FlatJudgement}
use Rattle.gft_syntax.specs.declared.judgement.Keyword.{Keyword}
use Rattle.gft_syntax.specs.declared.judgement.Keyword.TheVariants as K
use Rattle.gft_syntax.specs.declared.linear.LinTerm.{LinTerm}
use Rattle.gft_syntax.specs.declared.linear.Typed.{Typed}
use Rattle.gft_syntax.specs.declared.reference.Whole.{Whole}
use Rattle.gft_syntax.specs.declared.term.Term.{Term, roll-Term}
use Rattle.gft_model.specs.CompileFaults
use Rattle.gft_model.specs.Compiled.{cases_in}
use Rattle.gft_model.specs.ConcreteTypes.{cells_of_type}
use Rattle.gft_model.specs.ConcreteTyping.{IsType}
use Rattle.gft_model.specs.Import.{AreTypings}
use Rattle.gft_model.specs.Items.{Item, lincat}
use Rattle.gft_model.specs.JudgementTyping.{items, literal_type, HasTyping, parameter, undefined_parameter, named_type, typed_oper, undefined_oper, found_type, found_oper, of_overload, linearization_type, linearization, IsTyped}
use Rattle.gft_model.specs.Languages.{lin_type}
use Rattle.gft_model.specs.Outcomes.{Outcome}
use Rattle.gft_model.specs.Refusals.{IsAccepted}
use Rattle.gft_model.specs.Resolution.{resolved}
use Rattle.gft_model.specs.TypeForms.{no_value}
use Rattle.gft_model.proofs.AcceptedAbstractExamples.{entry_of_s}
use Rattle.gft_model.proofs.AcceptedEntriesExamples.{no_names, lincat_entry}
use Rattle.gft_model.proofs.AcceptedNamesExamples.{one_of, none_of, type_layer}
use Rattle.gft_model.proofs.AcceptedTypesExamples.{type_resolved, is_record}
use Rattle.gft_model.proofs.Computing.{cells-roll}
use Rattle.gft_model.proofs.TypeLaws.{type-once}

-- the one category of E, and the one lincat of EEng
abbrev pub untyped : Flat
untyped = record {
  name = Some (codes "E");
  start = Some (codes "S");
  cats = entry_of_s 1 ∷ [];
  funs = [];
  params = [];
  opers = [];
  concretes = record { name = codes "EEng"; judgements = lincat_entry ∷ [] } ∷ [];
  typed = [];
}

-- {s : Str}, and what it means
abbrev type_term : Term
type_term = resolved no_names (roll-Term type_layer) []

abbrev the_item : Item
the_item = lincat (codes "EEng") lincat_entry.whole type_term

abbrev pub typings : List (Option Typed)
typings = Some (record { term = no_value; ctype = literal_type }) ∷ []

type_is : IsType (items untyped) type_term literal_type
type_is = subst (λ e. IsType (items untyped) e literal_type) (sym (type_resolved no_names)) (is_record untyped)

is_data : (A B : CType) → ¬ (out-CType literal_type ≡ C.Fun A B)
is_data A B e = let k = out-roll-CType (C.Record _) in let both = sym k ∙ e in cc

-- a lincat is typed by its type alone
typed_lincat : {lang : List ℕ} {w : Whole} {e : Term} {i : Item} {t : LinTerm} {T : CType} → HasTyping untyped i t T →
    i ≡ lincat lang w e → (t ≡ no_value) × IsType (items untyped) e T
typed_lincat (parameter p) h = cc
typed_lincat undefined_parameter h = cc
typed_lincat (named_type a b c d n) h = cc
typed_lincat (typed_oper a b c n) h = cc
typed_lincat (undefined_oper a) h = cc
typed_lincat (found_type a b c n) h = cc
typed_lincat (found_oper a b n) h = cc
typed_lincat (of_overload a b c n) h = cc
typed_lincat {e = e} (linearization_type {e = f} {T = T} a d) h =
    let same : f ≡ e = cc in (refl, subst (λ x. IsType (items untyped) x T) same a)
typed_lincat (linearization a b) h = cc

typed_to : (k : ℕ) (t : Typed) → slice_get typings k ≡ Some (Some t) → IsTyped untyped k t.term t.ctype
typed_to zero t e =
    let same : record { term = no_value; ctype = literal_type } ≡ t = cc in
    subst (λ (u : Typed). IsTyped untyped 0 u.term u.ctype) same (the_item, refl, linearization_type type_is is_data)
typed_to (suc k) t e = cc

typed_from : (k : ℕ) (t : Typed) → IsTyped untyped k t.term t.ctype → slice_get typings k ≡ Some (Some t)
typed_from zero t (i, at, h) =
    let item : i ≡ the_item = cc in
    let there = typed_lincat h item in
    let type = type-once (items untyped) type_is there.1 refl in
    λ j. Some (Some (record { term = sym there.0 j; ctype = type j }))
typed_from (suc k) t (i, at, h) = cc

pub are_typings : AreTypings untyped typings
are_typings = record { numbers = refl; each = λ k t. (typed_to k t, typed_from k t) }

-- nothing is broken where the language is compiled
abbrev pub language : Flat
language = record untyped { typed = typings }

category_is : {e : FlatJudgement} → Contains language.cats e → codes "S" ≡ e.whole.name
category_is c = ap (λ (f : FlatJudgement). f.whole.name) (one_of c)

one_cell : length (cells_of_type literal_type) ≡ 1
one_cell = simp cells-roll

one_case : length (cases_in language (codes "EEng") (codes "S")) ≡ 1
one_case = simp cells-roll

evaluates_none : {k : Keyword} {x : List ℕ} {cases : List (List Outcome)} →
    CompileFaults.Evaluates language (codes "EEng") k x cases → ⊥
evaluates_none (CompileFaults.of_function c h) = none_of c
evaluates_none (CompileFaults.of_hole c h) =
    let wrong = subst (λ x. CompileFaults.is_there language (codes "EEng") K.Lindef x ≡ true) (sym (category_is c)) h in cc
evaluates_none (CompileFaults.of_string c h l) =
    let wrong = subst (λ x. CompileFaults.is_there language (codes "EEng") K.Linref x ≡ true) (sym (category_is c)) h in cc

pub compiles : IsAccepted (CompileFaults.BreaksCompiling language (codes "EEng"))
compiles at r (CompileFaults.no_lincat c f) =
    let wrong = subst (λ x. CompileFaults.is_there language (codes "EEng") K.Lincat x ≡ false) (sym (category_is c)) f in cc
compiles at r (CompileFaults.too_many_cells {T = T} c l h s) =
    let type = subst (λ x. lin_type language (codes "EEng") x ≡ Some T) (sym (category_is c)) l in
    let same : literal_type ≡ T = cc in
    let one = sym (ap (λ U. length (cells_of_type U)) same) ∙ one_cell in omega (arith, h, one)
compiles at r (CompileFaults.no_lin c f) = none_of c
compiles at r (CompileFaults.too_many_cases c h s) =
    let one = sym (ap (λ x. length (cases_in language (codes "EEng") x)) (category_is c)) ∙ one_case in omega (arith, h, one)
compiles at r (CompileFaults.too_many_nonterminals h) = omega (arith, h, one_case)
compiles at r (CompileFaults.too_many_argument_cases c h s) = none_of c
compiles at r (CompileFaults.is_stuck d f) = evaluates_none d
compiles at r (CompileFaults.too_many_results d n h s) = evaluates_none d
