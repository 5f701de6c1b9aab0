-- Concrete typing: which types are found for terms and which terms fit a given type, each with the
-- typed term that says what the term means.
use Rattle.std.specs.Prelude.{◌≡◌, ℕ, ◌≤◌, List, [], ◌∷◌, ◌++◌, map, reverse, length, ◌⊎◌, Some, None, IsTrue, Bool, true, false, ◌&&◌}
use Rattle.std.specs.Option.{is_some}
use Rattle.std.specs.List.{list_all, list_any}
use Rattle.gft_core.specs.Words.{words_of}
use Rattle.gft_core.specs.declared.place.Place.{Place}
use Rattle.gft_syntax.specs.declared.ctype.CType.{CType, out-CType}
use Rattle.gft_syntax.specs.declared.ctype.CType.TheOpen as CType-F
use Rattle.gft_syntax.specs.declared.linear.Branches.TheVariants.{Matched, Listed}
use Rattle.gft_syntax.specs.declared.linear.LinTerm.{LinTerm}
use Rattle.gft_syntax.specs.declared.linear.LinTerm.TheOpen as Lin-F
use Rattle.gft_syntax.specs.declared.pattern.Pattern.{Pattern}
use Rattle.gft_syntax.specs.declared.reference.Whole.{Whole}
use Rattle.gft_syntax.specs.declared.reference.Reference.TheVariants.{Written, Whole as WholeName}
use Rattle.gft_syntax.specs.declared.term.Case.{Case}
use Rattle.gft_syntax.specs.declared.term.Local.{Local}
use Rattle.gft_syntax.specs.declared.term.Local.TheVariants.{Value, TypedValue}
use Rattle.gft_syntax.specs.declared.term.Sort.TheVariants as Sort-V
use Rattle.gft_syntax.specs.declared.term.Term.{Term}
use Rattle.gft_syntax.specs.declared.term.Term.TheOpen as Term-F
use Rattle.gft_syntax.specs.declared.value.Param.{Param}
use Rattle.gft_syntax.specs.Parts.{is_value}
use Rattle.gft_syntax.specs.Terms.{Layer}
use Rattle.gft_model.specs.ConcreteTypes.{field_of, count_of, values_of, record_in, table_in, IsSubtype}
use Rattle.gft_model.specs.Items.{Item, alternative}
use Rattle.gft_model.specs.Matching.{parameter, match_of, is_matched}
use Rattle.gft_model.specs.PatternTyping.{Scope, PatternFits, Constructs}
use Rattle.gft_model.specs.TypeForms.{form, str_type, number_type, record_type, table_type, functions, sort_type, sort_param, made, no_value, bound, with_bound, bound_pattern, constructor_term, predef_type, predef_term, predef_named}
use Rattle.gft_model.specs.Values.{extended}
pub use Rattle.gft_model.specs.WrittenTypes.{IsData, most_values, IsDomain, for_each, Standing, a_parameter, a_bare_parameter, a_constructor, an_oper, an_overload, nothing, is_constructor, standing_from, At, Stands, IsType, text_type, type_of_types, type_of_parameters, numbers_to, labels, table_over, function_from, pair_of, parameters_named, oper_named, definition_named, IsParameter, parameter_of, AreConstructors, no_constructor, constructor, AreArguments, no_argument, arguments, AreLabels, no_label, label, AreFactors, last_factor, next_factor, MeansParameter, its_name, its_bare_name, of_oper, IsTypeForm, a_type, some_numbers}

-- some pattern matches the value
abbrev pub is_covered : List Pattern → Param → Bool
is_covered ps v = list_any (λ p. is_matched (match_of p (parameter v))) ps

-- each value of the type is matched by some pattern
abbrev pub Covers : CType → List Pattern → Type 0
Covers P ps = IsTrue (list_all (is_covered ps) (values_of P))

-- what may be selected over directly: a domain whose values are covered, or texts
abbrev pub IsCovered : CType → List Pattern → Type 0
IsCovered P ps = (IsDomain P × Covers P ps) ⊎ (P ≡ str_type)

-- the patterns of branches
abbrev pub patterns : List (Case Term) → List Pattern
patterns cs = map (λ c. c.pattern) cs

-- a term of type S where type T is given: as it is, or cut; a term of type PType is a type
pub data Fits : CType → CType → LinTerm → LinTerm → Type 0 where
  same : {S t : _} → Fits S S t t
  cut : {S T t : _} → ¬ (S ≡ T) → IsSubtype S T → Fits S T t (made (Lin-F.Cut t S T))
  sort : {t : _} → Fits sort_param sort_type t t

-- forms that pass a given type on to their parts; every other form is found, and so are a record and a table with
-- its type where no type of their kind is given
abbrev pub passes : Layer → CType-F.CType-F CType → Bool
passes (Term-F.Fun xs e place) T = true
passes (Term-F.TabFun xs e place) T = true
passes (Term-F.Let ls e place) T = true
passes (Term-F.CaseOf e cs place) T = true
passes (Term-F.Variants es place) T = true
passes (Term-F.TableOf None cs place) T = true
passes (Term-F.TableOf (Some P) cs place) T = is_some (table_in T)
passes (Term-F.TableList P es place) T = is_some (table_in T)
passes (Term-F.Fields ls place) T = list_all is_value ls && is_some (record_in T)
passes d T = false

-- a table expression: one that stands on the left of ! is selected from directly
abbrev pub is_table_expression : Layer → Bool
is_table_expression (Term-F.TableOf P cs place) = true
is_table_expression (Term-F.TableList P es place) = true
is_table_expression d = false

-- forms that mean a type only where a type must stand, and are read as other terms elsewhere: names, and {}
abbrev pub is_term_first : Layer → Bool
is_term_first (Term-F.Var x place) = true
is_term_first (Term-F.Fields [] place) = true
is_term_first d = false

-- the names of one local, the last the nearest
abbrev pub with_names : List (List ℕ) → CType → Scope → Scope
with_names xs T Γ = reverse (map (λ x. (x, T)) xs) ++ Γ

-- a term under its locals
abbrev pub with_lets : List (List (List ℕ) × LinTerm) → LinTerm → LinTerm
with_lets [] t = t
with_lets (d ∷ ds) t = made (Lin-F.Let d.0 d.1 (with_lets ds t))

-- an application taken apart: its head, which is no application, and its arguments in order
pub data Spine : Term → List Term → Term → List Term → Type 0 where
  applied_to : {e f a g place es bs : _} → form e ≡ Term-F.App f a place → Spine f (a ∷ es) g bs → Spine e es g bs
  at_head : {e es : _} → ((f a : Term) (place : Place) → ¬ (form e ≡ Term-F.App f a place)) → Spine e es e es

module _ (items : List Item) where
  -- a function that takes as many arguments as it has parameters, each of a subtype
  pub data Takes : CType → LinTerm → List CType → List LinTerm → CType → LinTerm → Type 0 where
    takes_none : {R t : _} → IsData R → Takes R t [] [] R t
    takes : {F A B S R Ss t u v w us : _} → out-CType F ≡ CType-F.Fun A B → IsSubtype S A → Fits S A u v →
        Takes B (made (Lin-F.App t v)) Ss us R w → Takes F t (S ∷ Ss) (u ∷ us) R w

  -- the alternative of that number takes the arguments
  pub data Suits (w : Whole) (As : List CType) (us : List LinTerm) (k : ℕ) (R : CType) (u : LinTerm) : Type 0 where
    suits_by : {e xs D d F : _} → At items k (alternative w e xs D d) → IsType items D F →
        Takes F (made (Lin-F.Oper k)) As us R u → Suits w As us k R u

  -- it is the only one
  pub record Chosen (w : Whole) (As : List CType) (us : List LinTerm) (k : ℕ) (R : CType) (u : LinTerm) : Type 0 where
    pub suits : Suits w As us k R u
    pub alone : (j : ℕ) (S : CType) (v : LinTerm) → Suits w As us j S v → j ≡ k

  mutual
    -- the term has the type where none is given, and means the typed term
    pub data Finds : Scope → Term → CType → LinTerm → Type 0 where
      variable : {Γ e x p T : _} → form e ≡ Term-F.Var (Written x) p → field_of x Γ ≡ Some T → Finds Γ e T (made (Lin-F.Var x))
      constructor_name : {Γ e w c cs p Ts T : _} → form e ≡ Term-F.Var (WholeName c) p → Stands items c (a_constructor w cs) →
          IsParameter items w T → Constructs c Ts T → Finds Γ e (functions Ts T) (constructor_term Ts c)
      typed_oper : {Γ e D d w : _} (k : ℕ) {p T : _} → form e ≡ Term-F.Var (WholeName w) p →
          Stands items w (an_oper k (Some D) d) → IsType items D T → Finds Γ e T (made (Lin-F.Oper k))
      untyped_oper : {Γ e d w : _} (k : ℕ) {p T t : _} → form e ≡ Term-F.Var (WholeName w) p →
          Stands items w (an_oper k None (Some d)) → Finds [] d T t → Finds Γ e T (made (Lin-F.Oper k))
      parameter_name : {Γ e w p T : _} → form e ≡ Term-F.Var (WholeName w) p → IsParameter items w T →
          Finds Γ e sort_type no_value
      bare_parameter_name : {Γ e w p : _} → form e ≡ Term-F.Var (WholeName w) p → Stands items w a_bare_parameter →
          Finds Γ e sort_type no_value
      type_form : {Γ e : _} → is_term_first (form e) ≡ false → IsTypeForm items e → Finds Γ e sort_type no_value
      literal : {Γ e text p : _} → form e ≡ Term-F.Lit text p → Finds Γ e str_type (made (Lin-F.Words (words_of text)))
      append : {Γ e a b p t u : _} → form e ≡ Term-F.Concat a b p → Checks Γ a str_type t → Checks Γ b str_type u →
          Finds Γ e str_type (made (Lin-F.Concat t u))
      glue : {Γ e a b p t u : _} → form e ≡ Term-F.Glue a b p → Checks Γ a str_type t → Checks Γ b str_type u →
          Finds Γ e str_type (made (Lin-F.Glue t u p))
      number : {Γ e n p : _} → form e ≡ Term-F.Num n p → Finds Γ e (number_type n) (made (Lin-F.Num n))
      predef : {Γ e f x p q r : _} → form e ≡ Term-F.Proj f x p → form f ≡ Term-F.Sort Sort-V.Predef q → predef_named x ≡ Some r →
          Finds Γ e predef_type (predef_term r p)
      projection : {Γ e r x p R T fs t : _} → form e ≡ Term-F.Proj r x p → Finds Γ r R t → out-CType R ≡ CType-F.Record fs →
          field_of x fs ≡ Some T → Finds Γ e T (made (Lin-F.Proj t x))
      application : {Γ e f a p F A B t u : _} → form e ≡ Term-F.App f a p → Finds Γ f F t → out-CType F ≡ CType-F.Fun A B →
          Checks Γ a A u → Finds Γ e B (made (Lin-F.App t u))
      overloaded : {Γ e f es w : _} (k : ℕ) {p As us R u : _} → Spine e [] f es → form f ≡ Term-F.Var (WholeName w) p →
          Stands items w an_overload → FindsAll Γ es As us → Chosen w As us k R u → Finds Γ e R u
      selection : {Γ e a b p S P V t u : _} → form e ≡ Term-F.Select a b p → is_table_expression (form a) ≡ false →
          Finds Γ a S t → out-CType S ≡ CType-F.Table P V → Checks Γ b P u → Finds Γ e V (made (Lin-F.Select t u))
      branch_over : {Γ e a b P cs p q S V u bs : _} → form e ≡ Term-F.Select a b p → form a ≡ Term-F.TableOf (Some P) cs q →
          IsType items P S → BranchesFind Γ S cs V bs → IsCovered S (patterns cs) → Checks Γ b S u →
          Finds Γ e V (made (Lin-F.Case u (Matched bs) p))
      branch_of : {Γ e a b cs p q S V u bs : _} → form e ≡ Term-F.Select a b p → form a ≡ Term-F.TableOf None cs q →
          Finds Γ b S u → BranchesFind Γ S cs V bs → IsCovered S (patterns cs) →
          Finds Γ e V (made (Lin-F.Case u (Matched bs) p))
      item_of : {Γ e a b P es p q S V u ts : _} → form e ≡ Term-F.Select a b p → form a ≡ Term-F.TableList P es q →
          IsType items P S → IsDomain S → MembersFind Γ es V ts → count_of S ≤ length es → Checks Γ b S u →
          Finds Γ e V (made (Lin-F.Case u (Listed S ts) p))
      case_found : {Γ e b cs p S V u bs : _} → form e ≡ Term-F.CaseOf b cs p → Finds Γ b S u → BranchesFind Γ S cs V bs →
          IsCovered S (patterns cs) → Finds Γ e V (made (Lin-F.Case u (Matched bs) p))
      table_found : {Γ e P cs p S V bs : _} → form e ≡ Term-F.TableOf (Some P) cs p → IsType items P S → IsDomain S →
          BranchesFind Γ S cs V bs → Covers S (patterns cs) → Finds Γ e (table_type S V) (made (Lin-F.Table S (Matched bs)))
      list_found : {Γ e P es p S V ts : _} → form e ≡ Term-F.TableList P es p → IsType items P S → IsDomain S →
          MembersFind Γ es V ts → count_of S ≤ length es → Finds Γ e (table_type S V) (made (Lin-F.Table S (Listed S ts)))
      record_found : {Γ e ls p fs ts : _} → form e ≡ Term-F.Fields ls p → FieldsHave Γ [] ls fs ts →
          Finds Γ e (record_type fs) (made (Lin-F.Record ts))
      extension : {Γ e a b p S T fs gs t u : _} → form e ≡ Term-F.Extend a b p → Finds Γ a S t → out-CType S ≡ CType-F.Record fs →
          Finds Γ b T u → out-CType T ≡ CType-F.Record gs → Finds Γ e (record_type (extended fs gs)) (made (Lin-F.Extend t u))
      typed : {Γ e a b p T t : _} → form e ≡ Term-F.Typed a b p → IsType items b T → Checks Γ a T t → Finds Γ e T t
      let_found : {Γ Δ e b ls p ds T t : _} → form e ≡ Term-F.Let ls b p → Defines Γ ls Δ ds → Finds Δ b T t →
          Finds Γ e T (with_lets ds t)
      variants_found : {Γ e es p T ts : _} → form e ≡ Term-F.Variants es p → MembersFind Γ es T ts →
          Finds Γ e T (made (Lin-F.Variants ts))

    -- the term fits the given type, and means the typed term
    pub data Checks : Scope → Term → CType → LinTerm → Type 0 where
      lambda : {Γ e b x p T A B t : _} → form e ≡ Term-F.Fun (x ∷ []) b p → out-CType T ≡ CType-F.Fun A B →
          Checks (with_bound x A Γ) b B t → Checks Γ e T (made (Lin-F.Lambda (bound x) t))
      table_lambda : {Γ e b x p T P V t : _} → form e ≡ Term-F.TabFun (x ∷ []) b p → out-CType T ≡ CType-F.Table P V →
          Checks (with_bound x P Γ) b V t → Checks Γ e T (made (Lin-F.Table P (Matched ((bound_pattern x, t) ∷ []))))
      branches : {Γ e D cs p T P V bs : _} → form e ≡ Term-F.TableOf D cs p → out-CType T ≡ CType-F.Table P V →
          ((d : Term) → D ≡ Some d → IsType items d P) → BranchesCheck Γ P cs V bs → Covers P (patterns cs) →
          Checks Γ e T (made (Lin-F.Table P (Matched bs)))
      listed : {Γ e D es p T P V ts : _} → form e ≡ Term-F.TableList D es p → out-CType T ≡ CType-F.Table P V → IsType items D P →
          MembersCheck Γ es V ts → count_of P ≤ length es → Checks Γ e T (made (Lin-F.Table P (Listed P ts)))
      record_given : {Γ e ls p T fs gs ts t : _} → form e ≡ Term-F.Fields ls p → out-CType T ≡ CType-F.Record gs →
          FieldsHave Γ gs ls fs ts → Fits (record_type fs) T (made (Lin-F.Record ts)) t → Checks Γ e T t
      let_given : {Γ Δ e b ls p ds T t : _} → form e ≡ Term-F.Let ls b p → Defines Γ ls Δ ds → Checks Δ b T t →
          Checks Γ e T (with_lets ds t)
      case_given : {Γ e b cs p S T u bs : _} → form e ≡ Term-F.CaseOf b cs p → Finds Γ b S u → BranchesCheck Γ S cs T bs →
          IsCovered S (patterns cs) → Checks Γ e T (made (Lin-F.Case u (Matched bs) p))
      variants_given : {Γ e es p T ts : _} → form e ≡ Term-F.Variants es p → MembersCheck Γ es T ts →
          Checks Γ e T (made (Lin-F.Variants ts))
      empty_type : {Γ e p : _} → form e ≡ Term-F.Fields [] p → Checks Γ e sort_type no_value
      parameter_given : {Γ e w p t : _} → form e ≡ Term-F.Var (WholeName w) p → Finds Γ e sort_type t →
          MeansParameter items e w → Checks Γ e sort_param t
      found : {Γ e S T t u : _} → passes (form e) (out-CType T) ≡ false → Finds Γ e S t → Fits S T t u → Checks Γ e T u

    -- terms with the types that are found for them
    pub data FindsAll : Scope → List Term → List CType → List LinTerm → Type 0 where
      none_found : {Γ : _} → FindsAll Γ [] [] []
      next_found : {Γ e es T Ts t ts : _} → Finds Γ e T t → FindsAll Γ es Ts ts → FindsAll Γ (e ∷ es) (T ∷ Ts) (t ∷ ts)

    -- members of data: the type of the first is found, and the others are given it
    pub data MembersFind : Scope → List Term → CType → List LinTerm → Type 0 where
      first_member : {Γ e es T t ts : _} → Finds Γ e T t → IsData T → MembersCheck Γ es T ts → MembersFind Γ (e ∷ es) T (t ∷ ts)

    -- members that are given a type
    pub data MembersCheck : Scope → List Term → CType → List LinTerm → Type 0 where
      no_member : {Γ T : _} → MembersCheck Γ [] T []
      member : {Γ e es T t ts : _} → Checks Γ e T t → IsData T → MembersCheck Γ es T ts → MembersCheck Γ (e ∷ es) T (t ∷ ts)

    -- branches in the same way, each under its pattern's variables
    pub data BranchesFind : Scope → CType → List (Case Term) → CType → List (Pattern × LinTerm) → Type 0 where
      first_branch : {Γ Δ P V : _} {c : Case Term} {cs t bs : _} → PatternFits P c.pattern Δ → Finds (Δ ++ Γ) c.body V t →
          IsData V → BranchesCheck Γ P cs V bs → BranchesFind Γ P (c ∷ cs) V ((c.pattern, t) ∷ bs)

    -- branches whose bodies are given a type
    pub data BranchesCheck : Scope → CType → List (Case Term) → CType → List (Pattern × LinTerm) → Type 0 where
      no_branch : {Γ P V : _} → BranchesCheck Γ P [] V []
      branch : {Γ Δ P V : _} {c : Case Term} {cs t bs : _} → PatternFits P c.pattern Δ → Checks (Δ ++ Γ) c.body V t → IsData V →
          BranchesCheck Γ P cs V bs → BranchesCheck Γ P (c ∷ cs) V ((c.pattern, t) ∷ bs)

    -- fields of data as written: one whose label has a given type is given it, one with a type of its
    -- own is given that, and every other is found
    pub data FieldsHave : Scope → List (List ℕ × CType) → List (Local Term) → List (List ℕ × CType) →
        List (List ℕ × LinTerm) → Type 0 where
      no_field : {Γ gs : _} → FieldsHave Γ gs [] [] []
      value_given : {Γ gs fs x e ls ts T t : _} → field_of x gs ≡ Some T → Checks Γ e T t → FieldsHave Γ gs ls fs ts →
          FieldsHave Γ gs (Value (x ∷ []) e ∷ ls) ((x, T) ∷ fs) ((x, t) ∷ ts)
      value_found : {Γ gs fs x e ls ts T t : _} → field_of x gs ≡ None → Finds Γ e T t → IsData T → FieldsHave Γ gs ls fs ts →
          FieldsHave Γ gs (Value (x ∷ []) e ∷ ls) ((x, T) ∷ fs) ((x, t) ∷ ts)
      typed_given : {Γ gs fs x e D ls ts S T t u : _} → field_of x gs ≡ Some T → IsType items D S → Checks Γ e S t →
          Fits S T t u → FieldsHave Γ gs ls fs ts → FieldsHave Γ gs (TypedValue (x ∷ []) D e ∷ ls) ((x, T) ∷ fs) ((x, u) ∷ ts)
      typed_alone : {Γ gs fs x e D ls ts S t : _} → field_of x gs ≡ None → IsType items D S → IsData S → Checks Γ e S t →
          FieldsHave Γ gs ls fs ts → FieldsHave Γ gs (TypedValue (x ∷ []) D e ∷ ls) ((x, S) ∷ fs) ((x, t) ∷ ts)

    -- locals, each seeing those before it; the names of one do not see each other
    pub data Defines : Scope → List (Local Term) → Scope → List (List (List ℕ) × LinTerm) → Type 0 where
      no_local : {Γ : _} → Defines Γ [] Γ []
      local : {Γ Δ xs e ls ds T t : _} → Finds Γ e T t → Defines (with_names xs T Γ) ls Δ ds →
          Defines Γ (Value xs e ∷ ls) Δ ((xs, t) ∷ ds)
      typed_local : {Γ Δ xs e D ls ds T t : _} → IsType items D T → Checks Γ e T t →
          Defines (with_names xs T Γ) ls Δ ds → Defines Γ (TypedValue xs D e ∷ ls) Δ ((xs, t) ∷ ds)
