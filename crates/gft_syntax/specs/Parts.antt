-- The parts of terms, patterns and judgements in the order of the text, with what binds around each, and the names in them.
use Rattle.std.specs.Prelude.{ℕ, suc, Bool, true, false, List, [], ◌∷◌, ◌++◌, map, flat_map, codes, max, Option, Some, None, option_to_list}
use Rattle.gft_core.specs.declared.place.Place.{Place}
use Rattle.gft_syntax.specs.declared.bind.Bind.{Bind}
use Rattle.gft_syntax.specs.declared.bind.Bind.TheVariants.{Variable, Nothing}
use Rattle.gft_syntax.specs.declared.judgement.Context.{Context}
use Rattle.gft_syntax.specs.declared.judgement.Definition.{Definition}
use Rattle.gft_syntax.specs.declared.judgement.Definition.TheVariants as D
use Rattle.gft_syntax.specs.declared.judgement.Judgement.{Judgement}
use Rattle.gft_syntax.specs.declared.judgement.Judgement.TheVariants as J
use Rattle.gft_syntax.specs.declared.pattern.Pattern.{Pattern}
use Rattle.gft_syntax.specs.declared.pattern.Pattern.TheOpen as P
use Rattle.gft_syntax.specs.declared.pattern.Pattern.TheFolds.{fold-Pattern, para-Pattern}
use Rattle.gft_syntax.specs.declared.reference.Reference.{Reference}
use Rattle.gft_syntax.specs.declared.reference.Reference.TheVariants.{Whole as WholeName}
use Rattle.gft_syntax.specs.declared.reference.Whole.{Whole}
use Rattle.gft_syntax.specs.declared.term.Case.{Case}
use Rattle.gft_syntax.specs.declared.term.Local.{Local}
use Rattle.gft_syntax.specs.declared.term.Local.TheVariants.{Value, Label, TypedValue}
use Rattle.gft_syntax.specs.declared.term.Term.{Term}
use Rattle.gft_syntax.specs.declared.term.Term.TheOpen as T
use Rattle.gft_syntax.specs.declared.term.Term.TheFolds.{fold-Term}

-- the place of what is bound
abbrev pub bind_place : Bind → Place
bind_place (Variable x place) = place
bind_place (Nothing place) = place

-- the variables that are bound
abbrev pub bound_names : List Bind → List (List ℕ)
bound_names [] = []
bound_names (Variable x place ∷ xs) = x ∷ bound_names xs
bound_names (Nothing place ∷ xs) = bound_names xs

-- the category of lists of C, which is [C]
abbrev pub list_name : List ℕ → List ℕ
list_name C = codes "List" ++ C

-- the names that a local binds, or the labels of a field
abbrev pub local_names : {A : Type 0} → Local A → List (List ℕ)
local_names (Value xs e) = xs
local_names (Label xs t) = xs
local_names (TypedValue xs t e) = xs

-- a local or field with =
abbrev pub is_value : {A : Type 0} → Local A → Bool
is_value (Value xs e) = true
is_value (Label xs t) = false
is_value (TypedValue xs t e) = true

-- the place of a pattern's first token
abbrev pub pattern_place : {A : Type 0} → P.Pattern-F A → Place
pattern_place (P.Or p q place) = place
pattern_place (P.Seq p q place) = place
pattern_place (P.Con m r ps place) = place
pattern_place (P.Star p place) = place
pattern_place (P.As x p place) = place
pattern_place (P.Any place) = place
pattern_place (P.One place) = place
pattern_place (P.Name r place) = place
pattern_place (P.Text t place) = place
pattern_place (P.Num n place) = place
pattern_place (P.Fields fs place) = place
pattern_place (P.Tuple ps place) = place

-- the parts of a pattern
abbrev pub pattern_parts : {A : Type 0} → P.Pattern-F A → List A
pattern_parts (P.Or p q place) = p ∷ q ∷ []
pattern_parts (P.Seq p q place) = p ∷ q ∷ []
pattern_parts (P.Con m r ps place) = ps
pattern_parts (P.Star p place) = p ∷ []
pattern_parts (P.As x p place) = p ∷ []
pattern_parts (P.Fields fs place) = map (λ f. f.pattern) fs
pattern_parts (P.Tuple ps place) = ps
pattern_parts d = []

-- a part of a form: the names that the form binds around it, the pattern before it where it is a
-- branch, and whether a type must stand there
pub record Part (A : Type 0) : Type 0 where
  pub names : List (List ℕ)
  pub pattern : Option Pattern
  pub is_type : Bool
  pub part : A

abbrev pub term_under : {A : Type 0} → List (List ℕ) → A → Part A
term_under xs a = record { names = xs; pattern = None; is_type = false; part = a }

abbrev pub type_under : {A : Type 0} → List (List ℕ) → A → Part A
type_under xs a = record { names = xs; pattern = None; is_type = true; part = a }

abbrev pub plain_terms : {A : Type 0} → List A → List (Part A)
plain_terms es = map (term_under []) es

abbrev pub branch_parts : {A : Type 0} → List (Case A) → List (Part A)
branch_parts cs = map (λ c. record { names = []; pattern = Some c.pattern; is_type = false; part = c.body }) cs

abbrev pub local_parts : {A : Type 0} → List (List ℕ) → Local A → List (Part A)
local_parts xs (Value ls e) = term_under xs e ∷ []
local_parts xs (Label ls t) = type_under xs t ∷ []
local_parts xs (TypedValue ls t e) = type_under xs t ∷ term_under xs e ∷ []

-- locals, each seeing those before it, and then what sees them all
abbrev pub let_parts : {A : Type 0} → List (List ℕ) → List (Local A) → A → List (Part A)
let_parts xs [] e = term_under xs e ∷ []
let_parts xs (l ∷ ls) e = local_parts xs l ++ let_parts (local_names l ++ xs) ls e

-- the parts of a form
abbrev pub parts : {A : Type 0} → T.Term-F A → List (Part A)
parts (T.Alt a b place) = plain_terms (a ∷ b ∷ [])
parts (T.Fun bs e place) = term_under (bound_names bs) e ∷ []
parts (T.TabFun bs e place) = term_under (bound_names bs) e ∷ []
parts (T.Arrow bs a b place) = type_under [] a ∷ type_under (bound_names bs) b ∷ []
parts (T.TabType a b place) = type_under [] a ∷ type_under [] b ∷ []
parts (T.Let ls e place) = let_parts [] ls e
parts (T.Concat a b place) = plain_terms (a ∷ b ∷ [])
parts (T.Glue a b place) = plain_terms (a ∷ b ∷ [])
parts (T.Select a b place) = plain_terms (a ∷ b ∷ [])
parts (T.Extend a b place) = plain_terms (a ∷ b ∷ [])
parts (T.Pair a b place) = type_under [] a ∷ type_under [] b ∷ []
parts (T.TableOf p cs place) = map (type_under []) (option_to_list p) ++ branch_parts cs
parts (T.TableList p es place) = type_under [] p ∷ plain_terms es
parts (T.App f a place) = plain_terms (f ∷ a ∷ [])
parts (T.CaseOf e cs place) = term_under [] e ∷ branch_parts cs
parts (T.Variants es place) = plain_terms es
parts (T.Proj e x place) = plain_terms (e ∷ [])
parts (T.Fields ls place) = flat_map (local_parts []) ls
parts (T.Tuple es place) = plain_terms es
parts (T.Typed e t place) = term_under [] e ∷ type_under [] t ∷ []
parts d = []

-- the pattern itself, and all patterns within it
abbrev pub patterns_in : Pattern → List Pattern
patterns_in p = p ∷ para-Pattern (List Pattern) (λ d. flat_map (λ q. q.0 ∷ q.1) (pattern_parts d)) p

-- 1 where there is no term and no pattern within, else one more than the highest of those
abbrev pub most : List ℕ → ℕ
most [] = 0
most (n ∷ ns) = max n (most ns)

abbrev pub pattern_height : Pattern → ℕ
pattern_height = fold-Pattern ℕ (λ d. suc (most (pattern_parts d)))

abbrev pub height : Term → ℕ
height = fold-Term ℕ (λ d. suc (most (flat_map (λ p. map pattern_height (option_to_list p.pattern) ++ p.part ∷ []) (parts d))))

-- the whole name that a name is
abbrev pub whole_names : Reference → List Whole
whole_names (WholeName w) = w ∷ []
whole_names r = []

-- the whole names in a pattern
abbrev pub pattern_head : P.Pattern-F (List Whole) → List Whole
pattern_head (P.Con m r ps place) = whole_names r
pattern_head (P.Name r place) = whole_names r
pattern_head d = []

abbrev pub pattern_names : Pattern → List Whole
pattern_names = fold-Pattern (List Whole) (λ d. pattern_head d ++ flat_map (λ p. p) (pattern_parts d))

-- the whole names in a term
abbrev pub term_head : T.Term-F (List Whole) → List Whole
term_head (T.Var r place) = whole_names r
term_head (T.ListCat r place) = whole_names r
term_head d = []

abbrev pub names_in : Term → List Whole
names_in = fold-Term (List Whole)
    (λ d. term_head d ++ flat_map (λ p. flat_map pattern_names (option_to_list p.pattern) ++ p.part) (parts d))

-- the types of contexts, each seeing the variables of those before it
abbrev pub context_parts : List (List ℕ) → List Context → List (Part Term)
context_parts xs [] = []
context_parts xs (c ∷ cs) = type_under xs c.of_type ∷ context_parts (bound_names c.binds ++ xs) cs

-- the terms of a definition after arguments; alternatives of an overload see none
abbrev pub definition_parts : List (List ℕ) → Definition → List (Part Term)
definition_parts xs (D.Term e) = term_under xs e ∷ []
definition_parts xs (D.Overload ds) = flat_map (λ d. type_under [] d.of_type ∷ term_under [] d.value ∷ []) ds

-- the terms of a judgement, each with the variables around it
abbrev pub judgement_parts : Judgement → List (Part Term)
judgement_parts (J.Cat c cs) = context_parts [] cs
judgement_parts (J.Fun ns t) = type_under [] t ∷ []
judgement_parts (J.Lincat ns t) = type_under [] t ∷ []
judgement_parts (J.Lin ns bs e) = term_under (bound_names bs) e ∷ []
judgement_parts (J.Lindef ns bs e) = term_under (bound_names bs) e ∷ []
judgement_parts (J.Linref ns bs e) = term_under (bound_names bs) e ∷ []
judgement_parts (J.Param p cs) = flat_map (λ c. context_parts [] c.arguments) cs
judgement_parts (J.OperType ns t) = type_under [] t ∷ []
judgement_parts (J.OperTyped ns t d) = type_under [] t ∷ definition_parts [] d
judgement_parts (J.Oper ns bs d) = definition_parts (bound_names bs) d
judgement_parts j = []

-- the whole names in a judgement
abbrev pub judgement_names : Judgement → List Whole
judgement_names (J.ListCat c r k place) = whole_names r
judgement_names j = flat_map (λ p. names_in p.part) (judgement_parts j)
