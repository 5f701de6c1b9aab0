-- Faults of types in a judgement, each at the term or pattern that is faulty.
use Rattle.std.specs.Prelude.{◌≡◌, ℕ, ◌+◌, ◌<◌, ◌≤◌, List, [], ◌∷◌, ◌++◌, flat_map, length, drop, true, false, not, All, ◌⊎◌, bytes_eq, Contains, Option, Some, None, ◌≢◌, slice_get}
use Rattle.std.specs.List.{find, list_any, list_all}
use Rattle.std.specs.Map.{keys_of}
use Rattle.std.specs.Option.{is_some}
use Rattle.gft_rules.specs.declared.refusal.Refusal.{Refusal}
use Rattle.gft_rules.specs.declared.rule.Rule.{Rule}
use Rattle.gft_rules.specs.declared.rule.Rule.TheVariants as R
use Rattle.gft_syntax.specs.declared.bind.Bind.{Bind}
use Rattle.gft_syntax.specs.declared.ctype.CType.{CType, out-CType}
use Rattle.gft_syntax.specs.declared.flat.Flat.{Flat}
use Rattle.gft_syntax.specs.declared.judgement.Definition.TheVariants as D
use Rattle.gft_syntax.specs.declared.judgement.Judgement.{Judgement}
use Rattle.gft_syntax.specs.declared.judgement.Judgement.TheVariants as J
use Rattle.gft_syntax.specs.declared.linear.LinTerm.{LinTerm}
use Rattle.gft_syntax.specs.declared.pattern.Pattern.{Pattern}
use Rattle.gft_syntax.specs.declared.pattern.Pattern.TheOpen as P
use Rattle.gft_core.specs.declared.place.Place.{Place}
use Rattle.gft_syntax.specs.declared.reference.PlacedName.{PlacedName}
use Rattle.gft_syntax.specs.declared.reference.Reference.{Reference}
use Rattle.gft_syntax.specs.declared.term.Case.{Case}
use Rattle.gft_syntax.specs.declared.reference.Reference.TheVariants.{Whole as WholeName}
use Rattle.gft_syntax.specs.declared.reference.Whole.{Whole}
use Rattle.gft_syntax.specs.declared.term.Sort.TheVariants as Sort-V
use Rattle.gft_syntax.specs.declared.term.Term.{Term}
use Rattle.gft_syntax.specs.declared.term.Term.TheOpen as T
use Rattle.gft_syntax.specs.declared.value.Param.{Param}
use Rattle.gft_syntax.specs.Parts.{bind_place, is_value, local_names, pattern_place}
use Rattle.gft_syntax.specs.Terms.{Layer, place_of}
use Rattle.gft_model.specs.ConcreteTypes.{field_of, is_finite, count_of, values_of, record_in, table_in, function_in, IsSubtype}
use Rattle.gft_model.specs.ConcreteTyping.{IsType, IsParameter, IsDomain, Fits, Checks, FindsAll, Suits, Stands, a_bare_parameter, an_oper, an_overload, passes, is_covered, most_values, patterns}
use Rattle.gft_model.specs.WrittenTypes.{takes_data}
use Rattle.gft_model.specs.Modules.{placed_names}
use Rattle.gft_model.specs.Items.{Item, items_in, parameter_type}
use Rattle.gft_model.specs.JudgementTyping.{items, IsSort}
use Rattle.gft_model.specs.PatternTyping.{Scope, PatternFits, pattern_form}
use Rattle.gft_model.specs.Refusals.{Moment, refusal}
use Rattle.gft_model.specs.Resting.{Rests, answers_to}
use Rattle.gft_model.specs.TypeForms.{form, str_type, number_type, table_type, functions}
use Rattle.gft_model.specs.TypeTexts.{type_text, param_text}
use Rattle.gft_model.specs.TypingSites.{Mode, found, given, as_type, over, Role, data_wanted, parameter_wanted, finite_wanted, to_fit, selected, applied, a_term, a_pattern, Site, term_mode, value_mode, FoundFor, HasOverload, IsConstructorOf, StandsIn, judgement_sites}

-- the first of the labels that are wanted which is not there
abbrev pub first_absent : List (List ℕ) → List (List ℕ) → Option (List ℕ)
first_absent there wanted = find (λ l. not (list_any (bytes_eq l) there)) wanted

-- the rule that an item breaks which needs itself
abbrev pub cycle_rule : Item → Rule
cycle_rule (parameter_type w cs) = R.ParamCycle
cycle_rule i = R.OperCycle

-- a table with its type written
pub data WritesDomain (e : Term) : Term → Type 0 where
  with_branches : {t cs p : _} → form e ≡ T.TableOf (Some t) cs p → WritesDomain e t
  with_items : {t es p : _} → form e ≡ T.TableList t es p → WritesDomain e t

-- the first of the values that the branches or items of a form leave out
abbrev pub left_out : Layer → List Param → Option Param
left_out (T.TableOf t cs place) vs = find (λ v. not (is_covered (patterns cs) v)) vs
left_out (T.CaseOf e cs place) vs = find (λ v. not (is_covered (patterns cs) v)) vs
left_out (T.TableList t es place) vs = slice_get vs (length es)
left_out d vs = None

module _ (flat : Flat) where
  -- what is broken at a term that must be a type of the sort
  pub data BreaksSort (Γ : Scope) (e : Term) (S : CType) : Rule → List (List ℕ) → Type 0 where
    undefined_type : {w : Whole} {k p t A : _} → form e ≡ T.Var (WholeName w) p →
        Stands (items flat) w (an_oper k (Some t) None) → IsType (items flat) t A → IsSort A →
        BreaksSort Γ e S R.Unknown (w.name ∷ [])
    overload_is_no_type : {w : Whole} {p t : _} → form e ≡ T.Var (WholeName w) p → Stands (items flat) w an_overload →
        Checks (items flat) Γ e S t → BreaksSort Γ e S R.Unknown (w.name ∷ [])
    form_of_no_type : {t : _} → Checks (items flat) Γ e S t → ((w : Reference) (p : Place) → ¬ (form e ≡ T.Var w p)) →
        ((A : CType) → ¬ (IsType (items flat) e A)) → BreaksSort Γ e S R.NoType []
    undefined_parameter : {w : Whole} {p : _} → form e ≡ T.Var (WholeName w) p → Stands (items flat) w a_bare_parameter →
        BreaksSort Γ e S R.Unknown (w.name ∷ [])
    too_many_numbers : {f a n p q s : _} → form e ≡ T.App f a p → form f ≡ T.Sort Sort-V.Ints s → form a ≡ T.Num n q →
        most_values < n + 1 → BreaksSort Γ e S R.ParamTooLarge (type_text (number_type n) ∷ [])
    too_many_values : {A w p : _} → form e ≡ T.Var (WholeName w) p → IsParameter (items flat) w A → most_values < count_of A →
        BreaksSort Γ e S R.ParamTooLarge (type_text A ∷ [])

  module _ (Γ : Scope) (e : Term) (m : Mode) (r : Role) where
    -- the type that a term has in its mode
    pub data Has : CType → Type 0 where
      has_found : {A : _} → m ≡ found → FoundFor flat e Γ A → Has A
      has_given : {A : _} → m ≡ given A → Has A
      is_written : {S A : _} → m ≡ as_type S → IsType (items flat) e A → Has A

    -- what a table, a table type or a case is over
    pub data IsOver : CType → Type 0 where
      over_written : {t A : _} → WritesDomain e t → IsType (items flat) t A → IsOver A
      over_given : {cs p F A V : _} → form e ≡ T.TableOf None cs p → term_mode m ≡ given F →
          table_in (out-CType F) ≡ Some (A, V) → IsOver A
      over_selector : {cs p A : _} → form e ≡ T.TableOf None cs p → m ≡ over A → IsOver A
      over_case : {b cs p A : _} → form e ≡ T.CaseOf b cs p → FoundFor flat b Γ A → IsOver A
      over_type : {a b p A : _} → form e ≡ T.TabType a b p → IsType (items flat) a A → IsOver A

    -- what is broken at a term, before its parts are looked at and after that
    pub data BreaksTerm : Moment → Rule → List (List ℕ) → Type 0 where
      lambda_found : {xs b p : _} → form e ≡ T.Fun xs b p → m ≡ found → BreaksTerm (0 ∷ []) R.NoType []
      table_lambda_found : {xs b p : _} → form e ≡ T.TabFun xs b p → m ≡ found → BreaksTerm (0 ∷ []) R.NoType []
      table_found : {cs p : _} → form e ≡ T.TableOf None cs p → m ≡ found → BreaksTerm (0 ∷ []) R.NoType []
      no_variant_found : {p : _} → form e ≡ T.Variants [] p → m ≡ found → BreaksTerm (0 ∷ []) R.NoType []
      lambda_is_no_function : {xs b p F : _} → form e ≡ T.Fun xs b p → term_mode m ≡ given F → function_in (out-CType F) ≡ None →
          BreaksTerm (0 ∷ []) R.NotFunction (type_text F ∷ [])
      lambda_is_no_table : {xs b p F : _} → form e ≡ T.TabFun xs b p → term_mode m ≡ given F → table_in (out-CType F) ≡ None →
          BreaksTerm (0 ∷ []) R.NotTable (type_text F ∷ [])
      table_is_no_table : {cs p F : _} → form e ≡ T.TableOf None cs p → term_mode m ≡ given F → table_in (out-CType F) ≡ None →
          BreaksTerm (0 ∷ []) R.NotTable (type_text F ∷ [])
      no_first_case : {b p : _} → form e ≡ T.CaseOf b [] p → m ≡ found → BreaksTerm [] R.NoType []
      no_first_branch : {t p : _} → form e ≡ T.TableOf (Some t) [] p → value_mode (term_mode m) ≡ found →
          BreaksTerm [] R.NoType []
      no_first_item : {t p : _} → form e ≡ T.TableList t [] p → value_mode (term_mode m) ≡ found → BreaksTerm [] R.NoType []
      no_branch_over : {A p : _} → form e ≡ T.TableOf None [] p → m ≡ over A → BreaksTerm [] R.NoType []
      found_does_not_fit : {A B : _} → term_mode m ≡ given A → passes (form e) (out-CType A) ≡ false → FoundFor flat e Γ B →
          ((t : LinTerm) → ¬ (Checks (items flat) Γ e A t)) → BreaksTerm [] R.Mismatch (type_text A ∷ type_text B ∷ [])
      own_type_does_not_fit : {A U t : _} → r ≡ to_fit U → m ≡ given A → Checks (items flat) Γ e A t →
          ((u v : LinTerm) → ¬ (Fits A U u v)) → BreaksTerm [] R.Mismatch (type_text U ∷ type_text A ∷ [])
      table_over_another : {t F A B V : _} → term_mode m ≡ given F → table_in (out-CType F) ≡ Some (A, V) → WritesDomain e t →
          IsType (items flat) t B → B ≢ A → BreaksTerm [] R.Mismatch (type_text F ∷ type_text (table_type B V) ∷ [])
      projects_no_record : {a x p A : _} → form e ≡ T.Proj a x p → FoundFor flat a Γ A → record_in (out-CType A) ≡ None →
          BreaksTerm [] R.NotRecord (type_text A ∷ [])
      projects_no_field : {a x p A gs : _} → form e ≡ T.Proj a x p → FoundFor flat a Γ A → record_in (out-CType A) ≡ Some gs →
          field_of x gs ≡ None → BreaksTerm [] R.NoField (x ∷ [])
      extends_no_record : {a b p A B C : _} → form e ≡ T.Extend a b p → FoundFor flat a Γ A → FoundFor flat b Γ B →
          find (λ D. not (is_some (record_in (out-CType D)))) (A ∷ B ∷ []) ≡ Some C → BreaksTerm [] R.NotRecord (type_text C ∷ [])
      record_lacks : {ls p A gs x : _} → form e ≡ T.Fields ls p → list_all is_value ls ≡ true → term_mode m ≡ given A →
          record_in (out-CType A) ≡ Some gs → first_absent (flat_map local_names ls) (keys_of gs) ≡ Some x →
          BreaksTerm [] R.NoField (x ∷ [])
      selects_from_no_table : {a b p A : _} → form e ≡ T.Select a b p → FoundFor flat a Γ A → table_in (out-CType A) ≡ None →
          BreaksTerm [] R.NotTable (type_text A ∷ [])
      applies_no_function : {f a p A : _} → form e ≡ T.App f a p → ((w : Whole) (es : List Term) → ¬ (HasOverload flat f w es)) →
          FoundFor flat f Γ A → function_in (out-CType A) ≡ None → BreaksTerm [] R.NotFunction (type_text A ∷ [])
      function_for_data : {F A B : _} → (r ≡ data_wanted) ⊎ (r ≡ finite_wanted) → Has F →
          function_in (out-CType F) ≡ Some (A, B) → BreaksTerm [] R.FunctionHere []
      parameter_takes_function : {A : _} → r ≡ parameter_wanted → IsType (items flat) e A → takes_data A ≡ false →
          ((xs : List Bind) (a b : Term) (p : Place) → ¬ (form e ≡ T.Arrow xs a b p)) → BreaksTerm [] R.FunctionHere []
      argument_not_finite : {A : _} → r ≡ finite_wanted → IsType (items flat) e A → is_finite A ≡ false →
          BreaksTerm [] R.NotFinite (type_text A ∷ [])
      over_no_finite : {A : _} → IsOver A → is_finite A ≡ false →
          (A ≡ str_type → (r ≢ selected) × ((b : Term) (cs : List (Case Term)) (p : Place) → ¬ (form e ≡ T.CaseOf b cs p))) →
          BreaksTerm [] R.NotFinite (type_text A ∷ [])
      over_too_many : {A : _} → IsOver A → is_finite A ≡ true → most_values < count_of A →
          BreaksTerm [] R.ParamTooLarge (type_text A ∷ [])
      value_left_out : {A v : _} → IsOver A → IsDomain A → left_out (form e) (values_of A) ≡ Some v →
          BreaksTerm [] R.NotExhaustive (param_text v ∷ [])
      no_alternative : {w : Whole} {es As us : _} → r ≢ applied → HasOverload flat e w es → FindsAll (items flat) Γ es As us →
          ((k : ℕ) (B : CType) (u : LinTerm) → ¬ (Suits (items flat) w As us k B u)) → BreaksTerm [] R.NoOverload (w.name ∷ [])
      many_alternatives : {w : Whole} {es As us i k B C t u : _} → r ≢ applied → HasOverload flat e w es →
          FindsAll (items flat) Γ es As us → Suits (items flat) w As us i B t → Suits (items flat) w As us k C u → i ≢ k →
          BreaksTerm [] R.ManyOverloads (w.name ∷ [])

  -- the type of a pattern that has one of its own
  pub data PatternHas (p : Pattern) : CType → Type 0 where
    a_text : {t q : _} → pattern_form p ≡ P.Text t q → PatternHas p str_type
    a_character : {q : _} → pattern_form p ≡ P.One q → PatternHas p str_type
    a_sequence : {a b q : _} → pattern_form p ≡ P.Seq a b q → PatternHas p str_type
    a_repetition : {a q : _} → pattern_form p ≡ P.Star a q → PatternHas p str_type
    a_number : {n q : _} → pattern_form p ≡ P.Num n q → PatternHas p (number_type n)
    a_constructor : {m c ps q As B : _} → pattern_form p ≡ P.Con m (WholeName c) ps q → IsConstructorOf flat c As B →
        length ps ≤ length As → PatternHas p (functions (drop (length ps) As) B)

  -- what is broken at a pattern that is given a type, before its parts are looked at and after that
  pub data BreaksPattern (p : Pattern) (A : CType) : Moment → Rule → List (List ℕ) → Type 0 where
    applied_too_far : {m c ps q As B : _} → pattern_form p ≡ P.Con m (WholeName c) ps q → IsConstructorOf flat c As B →
        length As < length ps → BreaksPattern p A (0 ∷ []) R.NotFunction (type_text B ∷ [])
    pattern_of_no_record : {fs q : _} → pattern_form p ≡ P.Fields fs q → record_in (out-CType A) ≡ None →
        BreaksPattern p A (0 ∷ []) R.NotRecord (type_text A ∷ [])
    pattern_of_no_field : {fs q gs x : _} → pattern_form p ≡ P.Fields fs q → record_in (out-CType A) ≡ Some gs →
        first_absent (keys_of gs) (flat_map (λ f. f.labels) fs) ≡ Some x → BreaksPattern p A (0 ∷ []) R.NoField (x ∷ [])
    pattern_does_not_fit : {B : _} → PatternHas p B → ¬ (IsSubtype B A) →
        BreaksPattern p A [] R.Mismatch (type_text A ∷ type_text B ∷ [])
    variable_of_two_types : {q r B C a : _} (Γ Δ after : Scope) (before : Scope) (x : List ℕ) → pattern_form p ≡ P.Or q r a →
        PatternFits A q Γ → PatternFits A r Δ → Γ ≡ before ++ (x, B) ∷ after → All (λ f. field_of f.0 Δ ≡ Some f.1) before →
        field_of x Δ ≡ Some C → B ≢ C → BreaksPattern p A [] R.Mismatch (type_text B ∷ type_text C ∷ [])

  -- what is broken at terms and patterns that stand in these sites
  pub data BreaksSites (sites : List Site) : Moment → Refusal → Type 0 where
    at_term : {at Γ e m r early rule names : _} → StandsIn flat sites at Γ (a_term e) m r →
        BreaksTerm Γ e m r early rule names → BreaksSites sites (at ++ early) (refusal rule (place_of e) names)
    at_type : {at Γ e S r rule names : _} → StandsIn flat sites at Γ (a_term e) (as_type S) r → BreaksSort Γ e S rule names →
        BreaksSites sites at (refusal rule (place_of e) names)
    at_pattern : {at Γ p A r early rule names : _} → StandsIn flat sites at Γ (a_pattern p) (given A) r →
        BreaksPattern p A early rule names →
        BreaksSites sites (at ++ early) (refusal rule (pattern_place (pattern_form p)) names)

  -- what is broken in the types of the judgement of that whole name, in a language
  pub data BreaksTypes (lang : List ℕ) (w : Whole) (j : Judgement) : Moment → Refusal → Type 0 where
    needs_itself : {i k : _} {n : PlacedName} {ns : _} → Contains (items_in lang w j) i → Contains (answers_to i) w →
        Contains (items flat) k → Contains (answers_to k) w → Rests (items flat) i k → placed_names j ≡ n ∷ ns →
        BreaksTypes lang w j (0 ∷ 0 ∷ []) (refusal (cycle_rule i) n.place (n.name ∷ []))
    overload_with_arguments : {ns x xs ds : _} → j ≡ J.Oper ns (x ∷ xs) (D.Overload ds) →
        BreaksTypes lang w j (0 ∷ 1 ∷ []) (refusal R.NoType (bind_place x) [])
    in_sites : {at r : _} → BreaksSites (judgement_sites lang w.name j) at r → BreaksTypes lang w j at r
    at_definition : {ns e S rule names : _} → j ≡ J.Oper ns [] (D.Term e) → FoundFor flat e [] S → IsSort S →
        BreaksSort [] e S rule names → BreaksTypes lang w j (1 ∷ []) (refusal rule (place_of e) names)
