-- The judgements of a resolved grammar that have a number, in their order.
use Rattle.std.specs.Prelude.{ℕ, List, [], ◌∷◌, ◌++◌, map, flat_map, Option, Some, None}
use Rattle.gft_syntax.specs.declared.bind.Bind.{Bind}
use Rattle.gft_syntax.specs.declared.reference.Whole.{Whole}
use Rattle.gft_syntax.specs.declared.term.Term.{Term, roll-Term}
use Rattle.gft_syntax.specs.declared.term.Term.TheOpen as Term-F
use Rattle.gft_syntax.specs.declared.judgement.Constructor.{Constructor}
use Rattle.gft_syntax.specs.declared.judgement.Definition.{Definition}
use Rattle.gft_syntax.specs.declared.judgement.Definition.TheVariants as Definition-V
use Rattle.gft_syntax.specs.declared.judgement.Judgement.{Judgement}
use Rattle.gft_syntax.specs.declared.judgement.Judgement.TheVariants as Judgement-V
use Rattle.gft_syntax.specs.declared.judgement.Keyword.{Keyword}
use Rattle.gft_syntax.specs.declared.judgement.Keyword.TheVariants as K
use Rattle.gft_syntax.specs.declared.flat.Flat.{Flat}
use Rattle.gft_syntax.specs.declared.flat.FlatJudgement.{FlatJudgement}
use Rattle.gft_syntax.specs.Parts.{bind_place}

-- a numbered judgement: a parameter type with its constructors or without; an oper with its type
-- and its definition, where they are there; an alternative of an overload, after the type and the
-- arguments that stand before the word overload; a lincat of a concrete module, with the module's name; and a lin,
-- lindef or linref of one, by its keyword
pub data Item : Type 0 where
  parameter_type : Whole → List Constructor → Item
  bare_parameter : Whole → Item
  oper : Whole → Option Term → Option Term → Item
  alternative : Whole → Option Term → List Bind → Term → Term → Item
  lincat : List ℕ → Whole → Term → Item
  linear : Keyword → List ℕ → Whole → Term → Item

-- arguments before the = are a lambda at the place of the first
abbrev pub with_arguments : List Bind → Term → Term
with_arguments [] e = e
with_arguments (x ∷ xs) e = roll-Term (Term-F.Fun (x ∷ xs) e (bind_place x))

-- the items of a definition: one, or one for each alternative
abbrev pub defined : Whole → Option Term → List Bind → Definition → List Item
defined w T xs (Definition-V.Term e) = oper w T (Some (with_arguments xs e)) ∷ []
defined w T xs (Definition-V.Overload ds) = map (λ d. alternative w T xs d.of_type d.value) ds

-- the items of a judgement; lang is the concrete module that has it
abbrev pub items_in : List ℕ → Whole → Judgement → List Item
items_in lang w (Judgement-V.Lincat ns T) = lincat lang w T ∷ []
items_in lang w (Judgement-V.Lin ns xs e) = linear K.Lin lang w (with_arguments xs e) ∷ []
items_in lang w (Judgement-V.Lindef ns xs e) = linear K.Lindef lang w (with_arguments xs e) ∷ []
items_in lang w (Judgement-V.Linref ns xs e) = linear K.Linref lang w (with_arguments xs e) ∷ []
items_in lang w (Judgement-V.ParamName n) = bare_parameter w ∷ []
items_in lang w (Judgement-V.Param n cs) = parameter_type w cs ∷ []
items_in lang w (Judgement-V.OperType ns T) = oper w (Some T) None ∷ []
items_in lang w (Judgement-V.OperTyped ns T d) = defined w (Some T) [] d
items_in lang w (Judgement-V.Oper ns xs d) = defined w None xs d
items_in lang w j = []

-- the items of some judgements
abbrev pub items_of_all : List ℕ → List FlatJudgement → List Item
items_of_all lang js = flat_map (λ j. items_in lang j.whole j.judgement) js

-- the numbered judgements: parameter types, opers, then those of the concrete modules, each in
-- source order, each alternative of an overload by itself
abbrev pub items_of : Flat → List Item
items_of flat =
    items_of_all [] flat.params ++ items_of_all [] flat.opers
    ++ flat_map (λ c. items_of_all c.name c.judgements) flat.concretes
