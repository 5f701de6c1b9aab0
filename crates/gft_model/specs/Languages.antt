-- What a resolved and typed grammar says of its languages: the terms of functions and categories.
use Rattle.std.specs.Prelude.{ℕ, List, [], ◌∷◌, Bool, false, ◌&&◌, bytes_eq, position, Option, Some, option_map, option_and_then, slice_get, if◌then◌else◌, ◌||◌, codes}
use Rattle.std.specs.Option.{option_map_or}
use Rattle.gft_syntax.specs.declared.ctype.CType.{CType}
use Rattle.gft_syntax.specs.declared.flat.Flat.{Flat}
use Rattle.gft_syntax.specs.declared.judgement.Keyword.{Keyword}
use Rattle.gft_syntax.specs.declared.judgement.Keyword.TheVariants as K
use Rattle.gft_syntax.specs.declared.linear.LinTerm.{LinTerm}
use Rattle.gft_syntax.specs.declared.linear.Typed.{Typed}
use Rattle.gft_syntax.specs.declared.value.Value.{Value}
use Rattle.gft_model.specs.Items.{Item, items_of, lincat, linear}
use Rattle.gft_model.specs.JudgementTyping.{literal_type, signature_in}
use Rattle.gft_model.specs.Outcomes.{Outcome, outcomes, TermResults, plain, function, none, and_then, results_of, opers_of, no_environment}

-- a judgement of that keyword in a language, by its name
abbrev pub is_judgement : Keyword → List ℕ → List ℕ → Item → Bool
is_judgement K.Lincat lang x (lincat l w e) = bytes_eq lang l && bytes_eq x w.name
is_judgement K.Lin lang x (linear K.Lin l w e) = bytes_eq lang l && bytes_eq x w.name
is_judgement K.Lindef lang x (linear K.Lindef l w e) = bytes_eq lang l && bytes_eq x w.name
is_judgement K.Linref lang x (linear K.Linref l w e) = bytes_eq lang l && bytes_eq x w.name
is_judgement k lang x i = false

-- what typing gave for the first such judgement
abbrev pub typed_at : Flat → Keyword → List ℕ → List ℕ → Option Typed
typed_at flat k lang x =
    option_and_then (λ i. option_and_then (λ t. t) (slice_get flat.typed i)) (position (is_judgement k lang x) (items_of flat))

-- the linearization type of a category
abbrev pub lin_type : Flat → List ℕ → List ℕ → Option CType
lin_type flat lang C =
    if bytes_eq C (codes "Int") || bytes_eq C (codes "String") then Some literal_type
    else option_map (λ t. t.ctype) (typed_at flat K.Lincat lang C)

-- the outcomes of a function of data on values, one argument after the other
abbrev pub applied_to_all : TermResults → List Value → TermResults
applied_to_all r [] = r
applied_to_all r (v ∷ vs) = and_then r (λ m. elim m [ plain u ↦ none | function f ↦ applied_to_all (f (plain v)) vs ])

-- the outcomes of a closed term on values, with the opers of the grammar
abbrev pub outcomes_on : Flat → LinTerm → List Value → List Outcome
outcomes_on flat t vs = outcomes (applied_to_all (results_of (opers_of flat.typed) t no_environment) vs)

-- the arguments of a function, and the outcomes of its lin on values of these
abbrev pub arguments_of : Flat → List ℕ → List (List ℕ)
arguments_of flat f = option_map_or (λ s. s.arguments) (signature_in flat.funs f) []

abbrev pub lin_outcomes : Flat → List ℕ → List ℕ → List Value → List Outcome
lin_outcomes flat lang f vs = option_map_or (λ t. outcomes_on flat t.term vs) (typed_at flat K.Lin lang f) []
