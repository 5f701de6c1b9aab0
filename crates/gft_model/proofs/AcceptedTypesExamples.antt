-- A worked example of a judgement whose types are accepted: lincat S = {s : Str} of EEng.
use Rattle.std.proofs.Common.{◌≡◌, ap, sym, ◌∙◌, refl, ℕ, zero, suc, true, false, List, [], ◌∷◌, Some, None, subst, ◌⊎◌, inl, inr}
use Rattle.std.specs.List.{list_all}
use Rattle.std.specs.Prelude.{codes, Contains, slice_get}
use Rattle.gft_core.specs.declared.place.Place.{Place}
use Rattle.gft_rules.specs.declared.refusal.Refusal.{Refusal}
use Rattle.gft_rules.specs.declared.rule.Rule.{Rule}
use Rattle.gft_syntax.specs.declared.ctype.CType.{CType, out-CType}
use Rattle.gft_syntax.specs.declared.ctype.CType.TheOpen as C
use Rattle.gft_syntax.specs.declared.ctype.CType.TheViews.{out-roll-CType}
use Rattle.gft_syntax.specs.declared.flat.Flat.{Flat}
use Rattle.gft_syntax.specs.declared.judgement.Judgement.TheVariants as J
use Rattle.gft_syntax.specs.declared.reference.Whole.{Whole}
use Rattle.gft_syntax.specs.declared.linear.LinTerm.{LinTerm}
use Rattle.gft_syntax.specs.declared.pattern.Pattern.{Pattern}
use Rattle.gft_syntax.specs.declared.term.Local.{Local}
use Rattle.gft_syntax.specs.declared.term.Local.TheVariants.{Label}
use Rattle.gft_syntax.specs.declared.term.Term.{Term, roll-Term}
use Rattle.gft_syntax.specs.declared.term.Term.TheFolds.{para-roll-Term}
use Rattle.gft_syntax.specs.declared.term.Term.TheOpen as T
use Rattle.gft_syntax.specs.Parts.{is_value}
use Rattle.gft_syntax.specs.Terms.{Layer}
use Rattle.gft_model.specs.ConcreteTypes.{function_in}
use Rattle.gft_model.specs.ConcreteTyping.{Checks, is_term_first, passes, Spine, applied_to, at_head, IsType, text_type, labels, label, no_label, type_form, a_type, found, same}
use Rattle.gft_model.specs.JudgementTyping.{items}
use Rattle.gft_model.specs.PatternTyping.{Scope}
use Rattle.gft_model.specs.Refusals.{Moment}
use Rattle.gft_model.specs.Resolution.{Names, Open, resolve_step, resolved, resolved_judgement}
use Rattle.gft_model.specs.Resting.{answers_to}
use Rattle.gft_model.specs.TypeFaults
use Rattle.gft_model.specs.TypeForms.{form, str_type, sort_type, record_type, no_value}
use Rattle.gft_model.specs.TypingSites.{StandsIn, at_site, within_it, Leads, to_mode, to_type_of, to_overload, to_argument, to_type, to_term, after_locals, under_pattern, in_body, Way, in_mode, term_mode, term_sites, a_pattern, given, Mode, as_type, Role, data_wanted, Node, a_term, Site, type_site, sites_of, HasOverload, has_overload}
use Rattle.gft_model.proofs.AcceptedEntriesExamples.{lincat_entry}
use Rattle.gft_model.proofs.AcceptedNamesExamples.{one_of, none_of, named, lincat_of, str_layer, type_layer}
use Rattle.gft_model.proofs.Computing.{form-roll}
use Rattle.gft_model.proofs.TypeLaws.{type-once}

-- the type has no names, so they mean what they may
str_resolved : (n : Names) → resolved n (roll-Term str_layer) [] ≡ roll-Term str_layer
str_resolved n = ap (λ (f : Open). f []) (para-roll-Term Open (resolve_step n) str_layer)

pub type_resolved : (n : Names) → resolved n (roll-Term type_layer) [] ≡ roll-Term type_layer
type_resolved n =
    ap (λ (f : Open). f []) (para-roll-Term Open (resolve_step n) type_layer)
    ∙ ap (λ e. roll-Term (T.Fields (Label (codes "s" ∷ []) e ∷ []) (named 0 34 []).place)) (str_resolved n)

abbrev literal_type : CType
literal_type = record_type ((codes "s", str_type) ∷ [])

-- its label has no value
fields_are : {ls ks : List (Local Term)} {p q : Place} → T.Fields ls p ≡ T.Fields ks q → ls ≡ ks
fields_are e = cc

no_values : {ls : List (Local Term)} → Label (codes "s" ∷ []) (roll-Term str_layer) ∷ [] ≡ ls → list_all is_value ls ≡ true → ⊥
no_values e v = let wrong : false ≡ true = ap (list_all is_value) e ∙ v in cc

module _ (flat : Flat) where
  is_str : IsType (items flat) (roll-Term str_layer) str_type
  is_str = text_type (form-roll str_layer)

  str_is_data : (A B : CType) → ¬ (out-CType str_type ≡ C.Fun A B)
  str_is_data A B e = let k = out-roll-CType C.Str in cc

  pub is_record : IsType (items flat) (roll-Term type_layer) literal_type
  is_record = labels (form-roll type_layer) (label is_str str_is_data no_label)

  -- where a type of data must stand: at the record type and at its label
  record IsSite (n : Node) (m : Mode) (r : Role) : Type 0 where
    term : Term
    node : n ≡ a_term term
    mode : m ≡ as_type sort_type
    role : r ≡ data_wanted
    layer : (form term ≡ type_layer) ⊎ (form term ≡ str_layer)

  mode_is : {Γ Δ : Scope} {w : Way} {m n : Mode} → Leads flat w Γ Δ m → w ≡ in_mode n → m ≡ n
  mode_is to_mode e = cc
  mode_is (to_type_of g) e = cc
  mode_is (to_overload h) e = cc
  mode_is (to_argument g) e = cc
  mode_is (to_type t h) e = cc
  mode_is (to_term t h) e = cc
  mode_is (after_locals d l) e = cc
  mode_is (under_pattern g p l) e = cc
  mode_is (in_body h) e = cc

  -- the only one of these sites
  alone : {sites : List Site} {e : Term} {s : Site} {Γ Δ : Scope} {m : Mode} (k : ℕ) → sites ≡ type_site data_wanted e ∷ [] →
      slice_get sites k ≡ Some s → Leads flat s.way Γ Δ m → (form e ≡ type_layer) ⊎ (form e ≡ str_layer) → IsSite s.node m s.role
  alone {e = e} {s = s} {m = m} k h g l f = of k (subst (λ ss. slice_get ss k ≡ Some s) h g) where
    of : (k : ℕ) → slice_get (type_site data_wanted e ∷ []) k ≡ Some s → IsSite s.node m s.role
    of zero i =
        let same : s ≡ type_site data_wanted e = cc in
        record {
          term = e;
          node = ap (λ (t : Site). t.node) same;
          mode = mode_is l (ap (λ (t : Site). t.way) same);
          role = ap (λ (t : Site). t.role) same;
          layer = f;
        }
    of (suc j) i = cc

  parts_of : {n : Node} {m : Mode} {e : Term} {d : Layer} (r : Role) → n ≡ a_term e → m ≡ as_type sort_type → form e ≡ d →
      sites_of n m r ≡ term_sites d (given sort_type) r
  parts_of r h i f = (λ j. sites_of (h j) (i j) r) ∙ ap (λ d. term_sites d (given sort_type) r) f

  abbrev sites : List Site
  sites = type_site data_wanted (roll-Term type_layer) ∷ []

  stands : {at : Moment} {Γ : Scope} {n : Node} {m : Mode} {r : Role} → StandsIn flat sites at Γ n m r → IsSite n m r
  stands (at_site k g l) = alone k refl g l (inl (form-roll type_layer))
  stands (within_it {n = n} {m = m} {l = o} {r = r} k {s} d g l) = of (stands d) (stands d).layer where
    of : (i : IsSite n m r) → (form i.term ≡ type_layer) ⊎ (form i.term ≡ str_layer) → IsSite s.node o s.role
    of i (inl f) = alone k (parts_of r i.node i.mode f) g l (inr (form-roll str_layer))
    of i (inr f) = let none = subst (λ ss. slice_get ss k ≡ Some s) (parts_of r i.node i.mode f) g in cc

  -- the form of the term of a site
  form_is : {Γ : Scope} {at : Moment} {e : Term} {d : Layer} {m : Mode} {r : Role} → StandsIn flat sites at Γ (a_term e) m r →
      form e ≡ d → (type_layer ≡ d) ⊎ (str_layer ≡ d)
  form_is {e = e} {d = d} h f = let i = stands h in of i.layer (same i.node) where
    same : {t : Term} → a_term e ≡ a_term t → e ≡ t
    same g = cc

    of : {t : Term} → (form t ≡ type_layer) ⊎ (form t ≡ str_layer) → e ≡ t → (type_layer ≡ d) ⊎ (str_layer ≡ d)
    of (inl g) h = inl (sym g ∙ ap form (sym h) ∙ f)
    of (inr g) h = inr (sym g ∙ ap form (sym h) ∙ f)

  no_form : {Γ : Scope} {at : Moment} {e : Term} {d : Layer} {m : Mode} {r : Role} → StandsIn flat sites at Γ (a_term e) m r →
      form e ≡ d → (type_layer ≡ d → ⊥) → (str_layer ≡ d → ⊥) → ⊥
  no_form {d = d} h f g k = of (form_is h f) where
    of : (type_layer ≡ d) ⊎ (str_layer ≡ d) → ⊥
    of (inl i) = g i
    of (inr i) = k i

  mode_there : {Γ : Scope} {at : Moment} {e : Term} {m : Mode} {r : Role} → StandsIn flat sites at Γ (a_term e) m r →
      m ≡ as_type sort_type
  mode_there h = (stands h).mode

  -- it is a type of data
  type_there : {Γ : Scope} {at : Moment} {e : Term} {m : Mode} {r : Role} → StandsIn flat sites at Γ (a_term e) m r →
      (A : CType) × IsType (items flat) e A × (function_in (out-CType A) ≡ None)
  type_there {e = e} h = of (form_is h refl) where
    of : (type_layer ≡ form e) ⊎ (str_layer ≡ form e) → (A : CType) × IsType (items flat) e A × (function_in (out-CType A) ≡ None)
    of (inl f) = (literal_type, labels (sym f) (label is_str str_is_data no_label), ap function_in (out-roll-CType _))
    of (inr f) = (str_type, text_type (sym f), ap function_in (out-roll-CType _))

  over_none : {Γ : Scope} {at : Moment} {e : Term} {m : Mode} {r : Role} {A : CType} → StandsIn flat sites at Γ (a_term e) m r →
      TypeFaults.IsOver flat Γ e m r A → ⊥
  over_none h (TypeFaults.over_written (TypeFaults.with_branches f) t) = no_form h f (λ j. cc) (λ j. cc)
  over_none h (TypeFaults.over_written (TypeFaults.with_items f) t) = no_form h f (λ j. cc) (λ j. cc)
  over_none h (TypeFaults.over_given f g i) = no_form h f (λ j. cc) (λ j. cc)
  over_none h (TypeFaults.over_selector f g) = no_form h f (λ j. cc) (λ j. cc)
  over_none h (TypeFaults.over_case f g) = no_form h f (λ j. cc) (λ j. cc)
  over_none h (TypeFaults.over_type f g) = no_form h f (λ j. cc) (λ j. cc)

  -- no application, so its head is it, which is no name
  head_is : {e h : Term} {es bs : List Term} → Spine e es h bs → ((f a : Term) (p : Place) → form e ≡ T.App f a p → ⊥) → h ≡ e
  head_is (applied_to f s) n = absurd (n _ _ _ f)
  head_is (at_head f) n = refl

  overload_none : {Γ : Scope} {at : Moment} {e : Term} {m : Mode} {r : Role} {w : Whole} {es : List Term} →
      StandsIn flat sites at Γ (a_term e) m r → HasOverload flat e w es → ⊥
  overload_none h (has_overload {p = p} s f g) =
      let head = head_is s (λ k a p i. no_form h i (λ j. cc) (λ j. cc)) in
      no_form h (ap form (sym head) ∙ f) (λ j. cc) (λ j. cc)

  -- where it must be a type, it is one
  given_sort : {A : CType} {m : Mode} → m ≡ as_type sort_type → term_mode m ≡ given A → A ≡ sort_type
  given_sort h f = let g = ap term_mode (sym h) ∙ f in cc

  checks_sort : {Γ : Scope} {e : Term} {A : CType} → IsType (items flat) e A → is_term_first (form e) ≡ false →
      passes (form e) (out-CType sort_type) ≡ false → (t : LinTerm) × Checks (items flat) Γ e sort_type t
  checks_sort a f p = (no_value, found p (type_form f (a_type a)) same)

  no_first : {Γ : Scope} {at : Moment} {e : Term} {m : Mode} {r : Role} → StandsIn flat sites at Γ (a_term e) m r →
      is_term_first (form e) ≡ false
  no_first {e = e} h = of (form_is h refl) where
    of : (type_layer ≡ form e) ⊎ (str_layer ≡ form e) → is_term_first (form e) ≡ false
    of (inl f) = ap is_term_first (sym f)
    of (inr f) = ap is_term_first (sym f)

  no_term : {Γ : Scope} {at early : Moment} {e : Term} {m : Mode} {r : Role} {rule : Rule} {names : List (List ℕ)} →
      StandsIn flat sites at Γ (a_term e) m r → TypeFaults.BreaksTerm flat Γ e m r early rule names → ⊥
  no_term h (TypeFaults.lambda_found f g) = no_form h f (λ j. cc) (λ j. cc)
  no_term h (TypeFaults.table_lambda_found f g) = no_form h f (λ j. cc) (λ j. cc)
  no_term h (TypeFaults.table_found f g) = no_form h f (λ j. cc) (λ j. cc)
  no_term h (TypeFaults.no_variant_found f g) = no_form h f (λ j. cc) (λ j. cc)
  no_term h (TypeFaults.lambda_is_no_function f g i) = no_form h f (λ j. cc) (λ j. cc)
  no_term h (TypeFaults.lambda_is_no_table f g i) = no_form h f (λ j. cc) (λ j. cc)
  no_term h (TypeFaults.table_is_no_table f g i) = no_form h f (λ j. cc) (λ j. cc)
  no_term h (TypeFaults.no_first_case f g) = no_form h f (λ j. cc) (λ j. cc)
  no_term h (TypeFaults.no_first_branch f g) = no_form h f (λ j. cc) (λ j. cc)
  no_term h (TypeFaults.no_first_item f g) = no_form h f (λ j. cc) (λ j. cc)
  no_term h (TypeFaults.no_branch_over f g) = no_form h f (λ j. cc) (λ j. cc)
  no_term {Γ} {e = e} h (TypeFaults.found_does_not_fit {A} g p b n) =
      let type = given_sort (mode_there h) g in
      let checks =
      checks_sort {Γ = Γ} (type_there h).1 (no_first h) (subst (λ S. passes (form e) (out-CType S) ≡ false) type p) in
      n checks.0 (subst (λ S. Checks (items flat) Γ e S checks.0) (sym type) checks.1)
  no_term h (TypeFaults.own_type_does_not_fit f g c n) = let role = (stands h).role in cc
  no_term h (TypeFaults.table_over_another g t (TypeFaults.with_branches f) b n) = no_form h f (λ j. cc) (λ j. cc)
  no_term h (TypeFaults.table_over_another g t (TypeFaults.with_items f) b n) = no_form h f (λ j. cc) (λ j. cc)
  no_term h (TypeFaults.projects_no_record f a g) = no_form h f (λ j. cc) (λ j. cc)
  no_term h (TypeFaults.projects_no_field f a g i) = no_form h f (λ j. cc) (λ j. cc)
  no_term h (TypeFaults.extends_no_record f a b g) = no_form h f (λ j. cc) (λ j. cc)
  no_term h (TypeFaults.record_lacks f v g i x) = no_form h f (λ j. no_values (fields_are j) v) (λ j. cc)
  no_term h (TypeFaults.selects_from_no_table f a g) = no_form h f (λ j. cc) (λ j. cc)
  no_term h (TypeFaults.applies_no_function f n a g) = no_form h f (λ j. cc) (λ j. cc)
  no_term h (TypeFaults.function_for_data r (TypeFaults.has_found f g) i) = let mode = mode_there h in cc
  no_term h (TypeFaults.function_for_data r (TypeFaults.has_given f) i) = let mode = mode_there h in cc
  no_term h (TypeFaults.function_for_data r (TypeFaults.is_written f t) i) =
      let type = type_there h in
      let same = type-once (items flat) t type.1 refl in
      let none = ap (λ A. function_in (out-CType A)) same ∙ type.2 in cc
  no_term h (TypeFaults.parameter_takes_function f t g i) = let role = (stands h).role in cc
  no_term h (TypeFaults.argument_not_finite f t g) = let role = (stands h).role in cc
  no_term h (TypeFaults.over_no_finite o f g) = over_none h o
  no_term h (TypeFaults.over_too_many o f l) = over_none h o
  no_term h (TypeFaults.value_left_out o d f) = over_none h o
  no_term h (TypeFaults.no_alternative f o g n) = overload_none h o
  no_term h (TypeFaults.many_alternatives f o g s u n) = overload_none h o

  no_sort : {Γ : Scope} {at : Moment} {e : Term} {S : CType} {r : Role} {rule : Rule} {names : List (List ℕ)} →
      StandsIn flat sites at Γ (a_term e) (as_type S) r → TypeFaults.BreaksSort flat Γ e S rule names → ⊥
  no_sort h (TypeFaults.undefined_type f s t i) = no_form h f (λ j. cc) (λ j. cc)
  no_sort h (TypeFaults.overload_is_no_type f s c) = no_form h f (λ j. cc) (λ j. cc)
  no_sort h (TypeFaults.form_of_no_type c n t) = let type = type_there h in t type.0 type.1
  no_sort h (TypeFaults.undefined_parameter f s) = no_form h f (λ j. cc) (λ j. cc)
  no_sort h (TypeFaults.too_many_numbers f g i l) = no_form h f (λ j. cc) (λ j. cc)
  no_sort h (TypeFaults.too_many_values f p l) = no_form h f (λ j. cc) (λ j. cc)

  no_pattern : {at : Moment} {Γ : Scope} {p : Pattern} {m : Mode} {r : Role} → StandsIn flat sites at Γ (a_pattern p) m r → ⊥
  no_pattern h = let node = (stands h).node in cc

  -- so nothing is broken at the sites of the type
  pub no_site_broken : (at : Moment) (r : Refusal) → ¬ (TypeFaults.BreaksSites flat sites at r)
  no_site_broken at r (TypeFaults.at_term h b) = no_term h b
  no_site_broken at r (TypeFaults.at_type h b) = no_sort h b
  no_site_broken at r (TypeFaults.at_pattern h b) = no_pattern h

  -- nor in the types of the judgement, whatever its whole name and its language are
  pub no_type_broken : (lang : List ℕ) (w : Whole) (C : List ℕ) (at : Moment) (r : Refusal) →
      ¬ (TypeFaults.BreaksTypes flat lang w (lincat_of C) at r)
  no_type_broken lang w C at r (TypeFaults.needs_itself c a d b s p) =
      none_of (subst (λ i. Contains (answers_to i) w) (sym (one_of c)) a)
  no_type_broken lang w C at r (TypeFaults.overload_with_arguments e) = cc
  no_type_broken lang w C at r (TypeFaults.in_sites b) = no_site_broken at r b
  no_type_broken lang w C at r (TypeFaults.at_definition e f s b) = cc

  -- so nothing is broken in what is typed in EEng
  pub no_entry_broken : (names : Names) (at : Moment) (r : Refusal) →
      ¬ (TypeFaults.BreaksTypes flat (codes "EEng") lincat_entry.whole (resolved_judgement names (lincat_of (codes "S"))) at r)
  no_entry_broken names at r b =
      no_type_broken (codes "EEng") lincat_entry.whole (codes "S") at r
      (subst (λ t. TypeFaults.BreaksTypes flat (codes "EEng") lincat_entry.whole (J.Lincat (named 0 30 (codes "S") ∷ []) t) at r)
      (type_resolved names) b)
