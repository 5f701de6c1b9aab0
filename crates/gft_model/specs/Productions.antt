-- What the functions of a language give in each case: productions, defs and refs over nonterminals, each
-- of which is a category with a case.
use Rattle.std.specs.Prelude.{ℕ, List, [], ◌∷◌, map, flat_map}
use Rattle.std.specs.List.{enumerate_from}
use Rattle.std.specs.Option.{option_map_or}
use Rattle.gft_core.specs.declared.symbol.Sym.{Sym}
use Rattle.gft_syntax.specs.declared.ctype.CType.{CType}
use Rattle.gft_syntax.specs.declared.flat.Flat.{Flat}
use Rattle.gft_syntax.specs.declared.value.Param.{Param}
use Rattle.gft_syntax.specs.declared.value.Value.{Value}
use Rattle.gft_model.specs.ConcreteTypes.{choices}
use Rattle.gft_model.specs.Languages.{lin_type, arguments_of, lin_outcomes}
use Rattle.gft_model.specs.Outcomes.{Outcome, given}
use Rattle.gft_model.specs.TreeStrings.{string_outcomes}
use Rattle.gft_model.specs.TreeValues.{closed_parts, values_by_case, hole_outcomes}
use Rattle.gft_model.specs.Values.{string_leaves, case_of}

-- the value of argument i in each case of its type: the parameters of the case, and string cell l as
-- its closed part l
abbrev pub case_values : ℕ → CType → List Value
case_values i T = map (closed_parts i) (values_by_case T)

-- those of several arguments
abbrev pub argument_cases : Flat → List ℕ → List (List ℕ) → List (List Value)
argument_cases flat lang Cs = map (λ C. option_map_or (case_values C.0) (lin_type flat lang C.1) []) (enumerate_from 0 Cs)

-- a production: the case of each argument and of the result, and the result's string cells
pub record CaseProduction : Type 0 where
  pub arguments : List (List Param)
  pub result : List Param
  pub sequences : List (List Sym)

-- what the outcomes of one case give
abbrev pub productions_given : List Value → List Outcome → List CaseProduction
productions_given vs os =
    map (λ v. record { arguments = map case_of vs; result = case_of v; sequences = string_leaves v }) (given os)

-- for each case of a function's arguments, the first argument counting most, their values and the
-- outcomes of its lin on them
abbrev pub outcomes_by_case : Flat → List ℕ → List ℕ → List (List Value × List Outcome)
outcomes_by_case flat lang f =
    map (λ vs. (vs, lin_outcomes flat lang f vs)) (choices (argument_cases flat lang (arguments_of flat f)))

-- the productions of a function: each outcome in each case
abbrev pub productions_of : Flat → List ℕ → List ℕ → List CaseProduction
productions_of flat lang f = flat_map (λ c. productions_given c.0 c.1) (outcomes_by_case flat lang f)

-- the defs of a category: the outcomes of its lindef on the closed part of a hole
abbrev pub defs_of : Flat → List ℕ → List ℕ → List CaseProduction
defs_of flat lang C = productions_given [] (hole_outcomes flat lang C)

-- the refs of a category: for each case, the strings that its linref gives
abbrev pub refs_of : Flat → List ℕ → List ℕ → List CaseProduction
refs_of flat lang C =
    let values = option_map_or (case_values 0) (lin_type flat lang C) [] in
    flat_map (λ v. productions_given (v ∷ []) (string_outcomes flat lang C v)) values
