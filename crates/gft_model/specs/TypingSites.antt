-- Where the terms and patterns of a judgement stand when it is typed: in which scope, and with which type
-- given, or found.
use Rattle.std.specs.Prelude.{◌≡◌, ◌⊎◌, ℕ, suc, List, [], ◌∷◌, ◌++◌, map, flat_map, Option, Some, None, slice_get, option_map}
use Rattle.std.specs.List.{enumerate_from, filter_map}
use Rattle.std.specs.Option.{option_map_or, unwrap_or}
use Rattle.gft_syntax.specs.declared.bind.Bind.{Bind}
use Rattle.gft_syntax.specs.declared.ctype.CType.{CType, out-CType}
use Rattle.gft_syntax.specs.declared.ctype.CType.TheOpen as CType-F
use Rattle.gft_syntax.specs.declared.flat.Flat.{Flat}
use Rattle.gft_syntax.specs.declared.judgement.Definition.{Definition}
use Rattle.gft_syntax.specs.declared.judgement.Definition.TheVariants as D
use Rattle.gft_syntax.specs.declared.judgement.Judgement.{Judgement}
use Rattle.gft_syntax.specs.declared.judgement.Judgement.TheVariants as J
use Rattle.gft_syntax.specs.declared.judgement.Keyword.{Keyword}
use Rattle.gft_syntax.specs.declared.judgement.Keyword.TheVariants as K
use Rattle.gft_syntax.specs.declared.linear.LinTerm.{LinTerm}
use Rattle.gft_syntax.specs.declared.pattern.Pattern.{Pattern}
use Rattle.gft_syntax.specs.declared.pattern.Pattern.TheOpen as P
use Rattle.gft_syntax.specs.declared.pattern.PatternField.{PatternField}
use Rattle.gft_syntax.specs.declared.reference.Reference.TheVariants.{Whole as WholeName}
use Rattle.gft_syntax.specs.declared.reference.Whole.{Whole}
use Rattle.gft_syntax.specs.declared.term.Case.{Case}
use Rattle.gft_syntax.specs.declared.term.Local.{Local}
use Rattle.gft_syntax.specs.declared.term.Local.TheVariants.{Value, Label, TypedValue}
use Rattle.gft_syntax.specs.declared.term.Term.{Term}
use Rattle.gft_syntax.specs.declared.term.Term.TheOpen as T
use Rattle.gft_syntax.specs.Terms.{Layer}
use Rattle.gft_model.specs.ConcreteTypes.{field_of, record_in, table_in, function_in}
use Rattle.gft_model.specs.ConcreteTyping.{IsType, IsParameter, Finds, Defines, Spine, Stands, a_constructor, an_overload, nothing}
use Rattle.gft_model.specs.Items.{with_arguments}
use Rattle.gft_model.specs.JudgementTyping.{items, HasGiven, IsSort}
use Rattle.gft_model.specs.PatternTyping.{Scope, PatternFits, Constructs, pattern_form}
use Rattle.gft_model.specs.Refusals.{Moment}
use Rattle.gft_model.specs.TypeForms.{form, str_type, sort_type, with_bound}

-- how a term is typed: its type is found; a type is given; it must be a type, of that sort; or it is a table over
-- the type, whose values' type is found
pub data Mode : Type 0 where
  found : Mode
  given : CType → Mode
  as_type : CType → Mode
  over : CType → Mode

-- what is wanted of it beside: nothing; data; what a parameter may be, a function only where it takes data; a finite type;
-- that its type fits another; or it is selected from directly, or applied
pub data Role : Type 0 where
  any_role : Role
  data_wanted : Role
  parameter_wanted : Role
  finite_wanted : Role
  to_fit : CType → Role
  selected : Role
  applied : Role

-- the two types in the layer of a table type or of a function type
abbrev pub Sides : Type 0
Sides = CType-F.CType-F CType → Option (CType × CType)

-- where a type comes from: it is this one; it is found for a term; a term is it; it is found for a branch of a
-- table over one; the type found for a term has it on its left side; a constructor has it as that argument; or it is
-- that of a judgement of a language
pub data Source : Type 0 where
  this : CType → Source
  found_for : Term → Source
  written : Term → Source
  found_for_branch : Source → Case Term → Source
  left_of : Sides → Term → Source
  argument_of : Whole → ℕ → Source
  of_judgement : List ℕ → Keyword → List ℕ → Source

-- the way from a form to its part: in that mode; in a mode by the type that comes from there; as the argument of
-- a function; as what a written type is given to; after locals; under the variables of a branch; under those of a
-- lambda or of \\ that is given a type
pub data Way : Type 0 where
  in_mode : Mode → Way
  by : (CType → Mode) → Source → Way
  argument_for : Term → Way
  defined_by : Term → Way
  after : List (Local Term) → Way → Way
  under : Source → Pattern → Way → Way
  inside : Sides → Bind → CType → Way

-- a term or a pattern
pub data Node : Type 0 where
  a_term : Term → Node
  a_pattern : Pattern → Node

-- a part of a form: what it is, what is wanted of it, and the way to it
pub record Site : Type 0 where
  pub node : Node
  pub role : Role
  pub way : Way

abbrev pub site : Role → Way → Term → Site
site role way e = record { node = a_term e; role = role; way = way }

abbrev pub type_site : Role → Term → Site
type_site role e = site role (in_mode (as_type sort_type)) e

abbrev pub pattern_site : Source → Pattern → Site
pattern_site s p = record { node = a_pattern p; role = any_role; way = by given s }

-- the type that is given to the parts of a form which is no type form, where it is to be a type
abbrev pub term_mode : Mode → Mode
term_mode (as_type S) = given S
term_mode m = m

-- the mode of a part that is given what is there of a given type, and is found where nothing is
abbrev pub mode_by : Option CType → Mode
mode_by T = option_map_or given T found

-- the fields that are given, and the mode of a given table's values
abbrev pub fields_given : Mode → List (List ℕ × CType)
fields_given (given T) = unwrap_or (record_in (out-CType T)) []
fields_given m = []

abbrev pub value_mode : Mode → Mode
value_mode (given T) = mode_by (option_map (λ p. p.1) (table_in (out-CType T)))
value_mode m = found

-- members: the first is found where no type is given, and gives the others its type
abbrev pub member_sites : Mode → List Term → List Site
member_sites found (e ∷ es) = site data_wanted (in_mode found) e ∷ map (site data_wanted (by given (found_for e))) es
member_sites m es = map (site data_wanted (in_mode m)) es

-- branches in the same way, each a pattern of the type that the table is over, and a body that sees it
abbrev pub branch_sites : Source → Way → List (Case Term) → List Site
branch_sites s way cs = flat_map (λ c. pattern_site s c.pattern ∷ site data_wanted (under s c.pattern way) c.body ∷ []) cs

abbrev pub table_sites : Source → Mode → List (Case Term) → List Site
table_sites s found (c ∷ cs) = branch_sites s (in_mode found) (c ∷ []) ++ branch_sites s (by given (found_for_branch s c)) cs
table_sites s m cs = branch_sites s (in_mode m) cs

-- fields, label by label: one whose label has a given type is given it, one with a type of its own is given that,
-- which must then fit, and every other is found
abbrev pub field_sites : List (List ℕ × CType) → Local Term → List Site
field_sites gs (Value xs e) = map (λ x. site data_wanted (in_mode (mode_by (field_of x gs))) e) xs
field_sites gs (Label xs t) = type_site data_wanted t ∷ []
field_sites gs (TypedValue xs t e) =
    type_site data_wanted t ∷ map (λ x. site (option_map_or to_fit (field_of x gs) any_role) (by given (written t)) e) xs

-- a local: one with a type of its own is given that, and every other is found
abbrev pub local_sites : Local Term → List Site
local_sites (Value xs e) = map (λ x. site any_role (in_mode found) e) xs
local_sites (Label xs t) = type_site any_role t ∷ []
local_sites (TypedValue xs t e) = type_site any_role t ∷ map (λ x. site any_role (by given (written t)) e) xs

-- the sides of an arrow; where it is a parameter in turn, its own parameter and those of its result are data
abbrev pub arrow_sites : Role → Term → Term → List Site
arrow_sites parameter_wanted a b = type_site data_wanted a ∷ type_site parameter_wanted b ∷ []
arrow_sites r a b = type_site parameter_wanted a ∷ type_site any_role b ∷ []

-- locals, each seeing those before it, and the term that sees them all
abbrev pub let_sites : List (Local Term) → List (Local Term) → Mode → Term → List Site
let_sites before [] m e = site any_role (after before (in_mode m)) e ∷ []
let_sites before (l ∷ ls) m e =
    map (λ (s : Site). record s { way = after before s.way }) (local_sites l) ++ let_sites (before ++ l ∷ []) ls m e

-- a selection: for a table without its type the selector comes first
abbrev pub select_sites : Layer → Term → Term → List Site
select_sites (T.TableOf None cs place) a b = site any_role (in_mode found) b ∷ site selected (by over (found_for b)) a ∷ []
select_sites (T.TableOf (Some t) cs place) a b = site selected (in_mode found) a ∷ site any_role (by given (written t)) b ∷ []
select_sites d a b = site any_role (in_mode found) a ∷ site any_role (by given (left_of table_in a)) b ∷ []

-- the parts of a term in a mode and a role, in the order in which they are typed; a lambda, \\ or table without its type
-- has none where no type is there for it
abbrev pub term_sites : Layer → Mode → Role → List Site
term_sites (T.Fun (x ∷ []) e place) (given F) r = site any_role (inside function_in x F) e ∷ []
term_sites (T.TabFun (x ∷ []) e place) (given F) r = site any_role (inside table_in x F) e ∷ []
term_sites (T.Arrow xs a b place) m r = arrow_sites r a b
term_sites (T.TabType a b place) m r = type_site any_role a ∷ type_site data_wanted b ∷ []
term_sites (T.Let ls e place) m r = let_sites [] ls m e
term_sites (T.Concat a b place) m r = map (site any_role (in_mode (given str_type))) (a ∷ b ∷ [])
term_sites (T.Glue a b place) m r = map (site any_role (in_mode (given str_type))) (a ∷ b ∷ [])
term_sites (T.Select a b place) m r = select_sites (form a) a b
term_sites (T.Extend a b place) m r = map (site any_role (in_mode found)) (a ∷ b ∷ [])
term_sites (T.Pair a b place) m r = map (type_site data_wanted) (a ∷ b ∷ [])
term_sites (T.TableOf None cs place) (given F) r =
    option_map_or (λ p. table_sites (this p.0) (given p.1) cs) (table_in (out-CType F)) []
term_sites (T.TableOf None cs place) (over A) r = table_sites (this A) found cs
term_sites (T.TableOf (Some t) cs place) m r = type_site any_role t ∷ table_sites (written t) (value_mode m) cs
term_sites (T.TableList t es place) m r = type_site any_role t ∷ member_sites (value_mode m) es
term_sites (T.App f a place) m r = site applied (in_mode found) f ∷ site any_role (argument_for f) a ∷ []
term_sites (T.CaseOf e cs place) m r = site any_role (in_mode found) e ∷ table_sites (found_for e) m cs
term_sites (T.Variants es place) m r = member_sites m es
term_sites (T.Proj e x place) m r = site any_role (in_mode found) e ∷ []
term_sites (T.Fields ls place) m r = flat_map (field_sites (fields_given m)) ls
term_sites (T.Typed e t place) m r = type_site any_role t ∷ site any_role (by given (written t)) e ∷ []
term_sites d m r = []

-- the pattern of a field, for each label; one whose label the type lacks is not typed
abbrev pub label_sites : List (List ℕ × CType) → PatternField Pattern → List Site
label_sites gs f = map (λ A. pattern_site (this A) f.pattern) (filter_map (λ l. field_of l gs) f.labels)

-- the parts of a pattern that is given a type
abbrev pub pattern_sites : P.Pattern-F Pattern → CType → List Site
pattern_sites (P.Or p q place) A = map (pattern_site (this A)) (p ∷ q ∷ [])
pattern_sites (P.Seq p q place) A = map (pattern_site (this str_type)) (p ∷ q ∷ [])
pattern_sites (P.Con m (WholeName c) ps place) A = map (λ p. pattern_site (argument_of c p.0) p.1) (enumerate_from 0 ps)
pattern_sites (P.Star p place) A = pattern_site (this str_type) p ∷ []
pattern_sites (P.As x p place) A = pattern_site (this A) p ∷ []
pattern_sites (P.Fields fs place) A = flat_map (label_sites (unwrap_or (record_in (out-CType A)) [])) fs
pattern_sites d A = []

-- the parts of a term or a pattern
abbrev pub sites_of : Node → Mode → Role → List Site
sites_of (a_term e) m r = term_sites (form e) (term_mode m) r
sites_of (a_pattern p) (given A) r = pattern_sites (pattern_form p) A
sites_of n m r = []

-- a definition: a term, or the alternatives of an overload
abbrev pub definition_sites : Way → List Bind → Definition → List Site
definition_sites way xs (D.Term e) = site any_role way (with_arguments xs e) ∷ []
definition_sites way xs (D.Overload ds) =
    flat_map (λ d. type_site any_role d.of_type ∷ site any_role (by given (written d.of_type)) d.value ∷ []) ds

-- the terms of a judgement of that name in a language, in the order in which they are typed
abbrev pub judgement_sites : List ℕ → List ℕ → Judgement → List Site
judgement_sites lang x (J.Lincat ns t) = type_site data_wanted t ∷ []
judgement_sites lang x (J.Lin ns xs e) = site any_role (by given (of_judgement lang K.Lin x)) (with_arguments xs e) ∷ []
judgement_sites lang x (J.Lindef ns xs e) = site any_role (by given (of_judgement lang K.Lindef x)) (with_arguments xs e) ∷ []
judgement_sites lang x (J.Linref ns xs e) = site any_role (by given (of_judgement lang K.Linref x)) (with_arguments xs e) ∷ []
judgement_sites lang x (J.Param p cs) = flat_map (λ c. map (λ a. type_site finite_wanted a.of_type) c.arguments) cs
judgement_sites lang x (J.OperType ns t) = type_site any_role t ∷ []
judgement_sites lang x (J.OperTyped ns t d) = type_site any_role t ∷ definition_sites (defined_by t) [] d
judgement_sites lang x (J.Oper ns xs d) = definition_sites (in_mode found) xs d
judgement_sites lang x j = []

module _ (flat : Flat) where
  -- the type that is found for a term
  abbrev pub FoundFor : Term → Scope → CType → Type 0
  FoundFor e Γ A = (t : LinTerm) × Finds (items flat) Γ e A t

  -- an overloaded oper; one without alternatives has no number, and so no item is of its name
  abbrev pub IsOverload : Whole → Type 0
  IsOverload w = Stands (items flat) w an_overload ⊎ Stands (items flat) w nothing

  -- the application's head is that overloaded oper, with its arguments
  pub data HasOverload (e : Term) (w : Whole) (es : List Term) : Type 0 where
    has_overload : {h p : _} → Spine e [] h es → form h ≡ T.Var (WholeName w) p → IsOverload w → HasOverload e w es

  -- the constructor has arguments of these types, and is one of the parameter type
  pub data IsConstructorOf (c : Whole) (As : List CType) (R : CType) : Type 0 where
    is_constructor_of : {w cs : _} → Stands (items flat) c (a_constructor w cs) → IsParameter (items flat) w R →
        Constructs c As R → IsConstructorOf c As R

  -- the type that comes from a source, in a scope
  pub data Gives : Source → Scope → CType → Type 0 where
    gives_this : {Γ A : _} → Gives (this A) Γ A
    gives_found : {Γ e A : _} → FoundFor e Γ A → Gives (found_for e) Γ A
    gives_written : {Γ e A : _} → IsType (items flat) e A → Gives (written e) Γ A
    gives_branch : {Γ vars s : _} {c : Case Term} {A V : _} → Gives s Γ A → PatternFits A c.pattern vars →
        FoundFor c.body (vars ++ Γ) V → Gives (found_for_branch s c) Γ V
    gives_left : {Γ : _} {sides : Sides} {e S A V : _} → FoundFor e Γ S → sides (out-CType S) ≡ Some (A, V) →
        Gives (left_of sides e) Γ A
    gives_argument : {Γ c n As A R : _} → IsConstructorOf c As R → slice_get As n ≡ Some A → Gives (argument_of c n) Γ A
    gives_judgement : {Γ lang k x A : _} → HasGiven flat lang k x A → Gives (of_judgement lang k x) Γ A

  -- the scope and the mode to which a way leads from a term's scope; each argument of an overload is found
  pub data Leads : Way → Scope → Scope → Mode → Type 0 where
    to_mode : {Γ m : _} → Leads (in_mode m) Γ Γ m
    to_type_of : {Γ mode s A : _} → Gives s Γ A → Leads (by mode s) Γ Γ (mode A)
    to_overload : {Γ f w es : _} → HasOverload f w es → Leads (argument_for f) Γ Γ found
    to_argument : {Γ f A : _} → Gives (left_of function_in f) Γ A → Leads (argument_for f) Γ Γ (given A)
    to_type : {Γ t S : _} → IsType (items flat) t S → IsSort S → Leads (defined_by t) Γ Γ (as_type S)
    to_term : {Γ t A : _} → IsType (items flat) t A → ¬ (IsSort A) → Leads (defined_by t) Γ Γ (given A)
    after_locals : {Γ Δ ls ds w m : _} → Defines (items flat) Γ ls Δ ds → Leads w Δ Δ m → Leads (after ls w) Γ Δ m
    under_pattern : {Γ vars s p w A m : _} → Gives s Γ A → PatternFits A p vars → Leads w Γ Γ m →
        Leads (under s p w) Γ (vars ++ Γ) m
    in_body : {Γ x F A B : _} {sides : Sides} → sides (out-CType F) ≡ Some (A, B) →
        Leads (inside sides x F) Γ (with_bound x A Γ) (given B)

  -- a term or pattern at or within one of the sites: its moment, scope, mode and role
  pub data StandsIn (sites : List Site) : Moment → Scope → Node → Mode → Role → Type 0 where
    at_site : (k : ℕ) {s : Site} {Δ m : _} → slice_get sites k ≡ Some s → Leads s.way [] Δ m →
        StandsIn sites (suc k ∷ []) Δ s.node m s.role
    within_it : {path Γ Δ n m l r : _} (k : ℕ) {s : Site} → StandsIn sites path Γ n m r → slice_get (sites_of n m r) k ≡ Some s →
        Leads s.way Γ Δ l → StandsIn sites (path ++ suc k ∷ []) Δ s.node l s.role
