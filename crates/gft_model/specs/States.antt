-- What a session holds.
use Rattle.std.specs.Prelude.{ℕ, List, [], map, bytes_eq, Contains, Option, Some, None, position, slice_get}
use Rattle.std.specs.Cmp.Lexicographic.{slice_cmp}
use Rattle.std.specs.List.{fold}
use Rattle.std.specs.FinMap.{put}
use Rattle.std.specs.Ordering.{nat_cmp}
use Rattle.gft_pmcfg.specs.declared.concrete.Concrete.{Concrete}
use Rattle.gft_pmcfg.specs.declared.grammar.Grammar.{Grammar}
use Rattle.gft_pmcfg.specs.declared.signature.Abstract.{Abstract}
use Rattle.gft_pmcfg.specs.declared.signature.Cat.{Cat}
use Rattle.gft_syntax.specs.declared.flat.Flat.{Flat}
use Rattle.gft_model.specs.Listing.{Language}
use Rattle.gft_model.specs.RunStrings.{IsBracketedString}
use Rattle.gft_model.specs.TreeStrings.{bracketed_strings}

-- a language as it is kept: the resolved source, or the concrete part of a file
pub data Kept : Type 0 where
  of_source : Flat → Kept
  of_file : Concrete → Kept

-- languages by their names, in byte order of these
abbrev pub Languages : Type 0
Languages = List (List ℕ × Kept)

-- an abstract part with languages
pub record Loaded : Type 0 where
  pub abs : Abstract
  pub languages : Languages

-- a state is empty, or it holds a grammar
abbrev pub State : Type 0
State = Option Loaded

-- languages with more of them, one after the other, each in place of one of its name
abbrev pub added : Languages → Languages → Languages
added held ls = fold (λ before l. put (slice_cmp nat_cmp) l.0 l.1 before) held ls

-- the number of the category of a name, and the name of the category of a number
abbrev pub category_number : Abstract → List ℕ → Option ℕ
category_number a name = position (λ (c : Cat). bytes_eq c.name name) a.cats

abbrev pub category_name : Abstract → ℕ → List ℕ
category_name a cat = elim (slice_get a.cats cat) [ None ↦ [] | Some c ↦ c.name ]

-- the bracketed strings of the trees of a language; the category is that of a tree that is one hole
abbrev pub language_of : Abstract → ℕ → List ℕ × Kept → Language
language_of a cat (name, of_source flat) t b = Contains (bracketed_strings flat name (category_name a cat) t) b
language_of a cat (name, of_file c) t b = IsBracketedString a c cat t b

-- a grammar of a portable file, as it is kept
abbrev pub kept_grammar : Grammar → Loaded
kept_grammar g = record { abs = g.abs; languages = map (λ (c : Concrete). (c.name, of_file c)) g.concretes }
