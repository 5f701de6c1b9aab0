-- Faults of a language when it is compiled, over a typed grammar.
use Rattle.std.specs.Prelude.{◌≡◌, ℕ, ◌<◌, ◌+◌, List, [], ◌∷◌, ◌++◌, map, flat_map, length, Bool, true, false, ◌↔◌, Contains, Option, Some, None, ◌≢◌}
use Rattle.std.specs.List.{list_any}
use Rattle.gft_core.specs.declared.place.Place.{Place}
use Rattle.gft_rules.specs.declared.refusal.Refusal.{Refusal}
use Rattle.gft_rules.specs.declared.rule.Rule.TheVariants as R
use Rattle.gft_syntax.specs.declared.flat.Flat.{Flat}
use Rattle.gft_syntax.specs.declared.flat.FlatConcrete.{FlatConcrete}
use Rattle.gft_syntax.specs.declared.flat.FlatJudgement.{FlatJudgement}
use Rattle.gft_syntax.specs.declared.judgement.Keyword.{Keyword}
use Rattle.gft_syntax.specs.declared.judgement.Keyword.TheVariants as K
use Rattle.gft_syntax.specs.declared.reference.PlacedName.{PlacedName}
use Rattle.gft_syntax.specs.declared.value.Value.{Value}
use Rattle.gft_model.specs.ConcreteTypes.{cells_of_type, choices, sum_of}
use Rattle.gft_model.specs.Compiled.{cases_in}
use Rattle.gft_model.specs.Items.{items_of}
use Rattle.gft_model.specs.Languages.{is_judgement, lin_type, arguments_of}
use Rattle.gft_model.specs.Outcomes.{Outcome, gives, stuck_at, given, Stuck}
use Rattle.gft_model.specs.Productions.{argument_cases, outcomes_by_case, case_values}
use Rattle.gft_model.specs.Refusals.{Moment, refusal, placeless, name_moment}
use Rattle.gft_model.specs.TreeStrings.{string_outcomes}
use Rattle.gft_model.specs.TreeValues.{hole_outcomes}
use Rattle.gft_model.specs.Modules.{placed_names, sort_of}

-- the most cells of a linearization type
abbrev pub most_cells : ℕ
most_cells = 65536

-- the most nonterminals of a language
abbrev pub most_nonterminals : ℕ
most_nonterminals = 1073741826

-- the most cases of a category or of a function, and the most results of a function
abbrev pub most : ℕ
most = 1048576

-- the first stuck step among outcomes
abbrev pub first_stuck : List Outcome → Option Stuck
first_stuck [] = None
first_stuck (gives v ∷ os) = first_stuck os
first_stuck (stuck_at k ∷ os) = Some k

-- the same values, each once
pub record AreDistinct (vs distinct : List Value) : Type 0 where
  pub same : (v : Value) → Contains distinct v ↔ Contains vs v
  pub once : (before between after : List Value) (u v : Value) → distinct ≡ before ++ u ∷ between ++ v ∷ after → u ≢ v

-- how many distinct results there are in each case, summed over the cases
pub data HasResults : List (List Outcome) → ℕ → Type 0 where
  no_case : HasResults [] 0
  one_case : {os rest vs n : _} → AreDistinct (given os) vs → HasResults rest n → HasResults (os ∷ rest) (length vs + n)

-- whether the language has a judgement of that keyword for the name
abbrev pub is_there : Flat → List ℕ → Keyword → List ℕ → Bool
is_there flat lang k x = list_any (is_judgement k lang x) (items_of flat)

-- what is evaluated for a name: the lin of a function, the lindef or the linref of a category; the
-- outcomes in each case
pub data Evaluates (flat : Flat) (lang : List ℕ) : Keyword → List ℕ → List (List Outcome) → Type 0 where
  of_function : {e : FlatJudgement} → Contains flat.funs e → is_there flat lang K.Lin e.whole.name ≡ true →
      Evaluates flat lang K.Lin e.whole.name (map (λ c. c.1) (outcomes_by_case flat lang e.whole.name))
  of_hole : {e : FlatJudgement} → Contains flat.cats e → is_there flat lang K.Lindef e.whole.name ≡ true →
      Evaluates flat lang K.Lindef e.whole.name (hole_outcomes flat lang e.whole.name ∷ [])
  of_string : {e : FlatJudgement} {T : _} → Contains flat.cats e → is_there flat lang K.Linref e.whole.name ≡ true →
      lin_type flat lang e.whole.name ≡ Some T →
      Evaluates flat lang K.Linref e.whole.name (map (string_outcomes flat lang e.whole.name) (case_values 0 T))

-- functions come first, by name; then categories, by name, the lindef before the linref
abbrev pub turn_of : Keyword → List ℕ → Moment
turn_of K.Lindef C = 5 ∷ name_moment C ++ 0 ∷ []
turn_of K.Linref C = 5 ∷ name_moment C ++ 1 ∷ []
turn_of k f = 4 ∷ name_moment f

-- the place of a name in its judgement of that keyword in a language
pub data StandsAt (flat : Flat) (lang : List ℕ) (k : Keyword) (x : List ℕ) : Place → Type 0 where
  in_judgement : {c : FlatConcrete} {j : FlatJudgement} {n : PlacedName} → Contains flat.concretes c → c.name ≡ lang →
      Contains c.judgements j → sort_of j.judgement ≡ Some k → Contains (placed_names j.judgement) n → n.name ≡ x →
      StandsAt flat lang k x n.place

-- what is broken when a language of a typed grammar is compiled
pub data BreaksCompiling (flat : Flat) (lang : List ℕ) : Moment → Refusal → Type 0 where
  no_lincat : {e : FlatJudgement} → Contains flat.cats e → is_there flat lang K.Lincat e.whole.name ≡ false →
      BreaksCompiling flat lang (0 ∷ name_moment e.whole.name) (placeless R.NoLincat (lang ∷ e.whole.name ∷ []))
  too_many_cells : {e : FlatJudgement} {T p : _} → Contains flat.cats e → lin_type flat lang e.whole.name ≡ Some T →
      most_cells < length (cells_of_type T) → StandsAt flat lang K.Lincat e.whole.name p →
      BreaksCompiling flat lang (0 ∷ name_moment e.whole.name) (refusal R.TooManyCells p (lang ∷ e.whole.name ∷ []))
  no_lin : {e : FlatJudgement} → Contains flat.funs e → is_there flat lang K.Lin e.whole.name ≡ false →
      BreaksCompiling flat lang (1 ∷ name_moment e.whole.name) (placeless R.NoLin (lang ∷ e.whole.name ∷ []))
  too_many_cases : {e : FlatJudgement} {p : _} → Contains flat.cats e → most < length (cases_in flat lang e.whole.name) →
      StandsAt flat lang K.Lincat e.whole.name p →
      BreaksCompiling flat lang (2 ∷ name_moment e.whole.name) (refusal R.TooManyCases p (lang ∷ e.whole.name ∷ []))
  too_many_nonterminals : most_nonterminals < 2 + sum_of (map (λ (e : FlatJudgement). length (cases_in flat lang e.whole.name)) flat.cats) →
      BreaksCompiling flat lang (3 ∷ []) (placeless R.TooManyNonterminals (lang ∷ []))
  too_many_argument_cases : {e : FlatJudgement} {p : _} → Contains flat.funs e →
      most < length (choices (argument_cases flat lang (arguments_of flat e.whole.name))) →
      StandsAt flat lang K.Lin e.whole.name p →
      BreaksCompiling flat lang (turn_of K.Lin e.whole.name ++ 0 ∷ []) (refusal R.TooManyCases p (lang ∷ e.whole.name ∷ []))
  is_stuck : {k x cases : _} {stuck : Stuck} → Evaluates flat lang k x cases →
      first_stuck (flat_map (λ os. os) cases) ≡ Some stuck →
      BreaksCompiling flat lang (turn_of k x ++ 1 ∷ []) (refusal stuck.rule stuck.place (lang ∷ x ∷ []))
  too_many_results : {k x cases n p : _} → Evaluates flat lang k x cases → HasResults cases n → most < n →
      StandsAt flat lang k x p →
      BreaksCompiling flat lang (turn_of k x ++ 2 ∷ []) (refusal R.TooManyProductions p (lang ∷ x ∷ []))
