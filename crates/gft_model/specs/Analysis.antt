-- Which constants a word is a form of, and in which case and cell.
use Rattle.std.specs.Prelude.{◌≡◌, ◌↔◌, ◌+◌, ℕ, List, [], ◌∷◌, map, position, AllPairs, Contains, Some, slice_get}
use Rattle.gft_core.specs.declared.tree.Tree.{App}
use Rattle.gft_pmcfg.specs.declared.concrete.Concrete.{Concrete}
use Rattle.gft_pmcfg.specs.declared.concrete.Info.{Info}
use Rattle.gft_pmcfg.specs.declared.signature.Abstract.{Abstract}
use Rattle.gft_pmcfg.specs.declared.signature.Fun.{Fun}
use Rattle.gft_model.specs.Brackets.{erased}
use Rattle.gft_model.specs.Compiled.{cases_in}
use Rattle.gft_model.specs.Listing.{IsBefore}
use Rattle.gft_model.specs.RunStrings.{HasValue}
use Rattle.gft_model.specs.States.{Kept, of_source, of_file, category_name}
use Rattle.gft_model.specs.TreeValues.{BracketedValue, bracketed_values}
use Rattle.gft_model.specs.Values.{case_of, each_same, same_param}

-- a function, a case of its category and a string cell, each by its number
pub record Analysis : Type 0 where
  pub fun : ℕ
  pub case : ℕ
  pub cell : ℕ

abbrev pub numbers_of : Analysis → List ℕ
numbers_of x = x.fun ∷ x.case ∷ x.cell ∷ []

-- a constant has a value of that case, with these strings in its cells: by its terms, or by productions
pub data HasForms (a : Abstract) (f : Fun) : List ℕ × Kept → ℕ → List (List (List ℕ)) → Type 0 where
  of_terms : {name flat k : _} {v : BracketedValue} →
      Contains (bracketed_values flat name (App f.name []) [] (category_name a f.result.cat)) v →
      position (each_same (map same_param (case_of v.value))) (cases_in flat name (category_name a f.result.cat)) ≡ Some k →
      HasForms a f (name, of_source flat) k (map erased v.strings)
  of_productions : {name k components : _} {c : Concrete} {info : Info} → slice_get c.infos f.result.cat ≡ Some info →
      HasValue a c [] (App f.name []) (info.first + k) components → HasForms a f (name, of_file c) k (map erased components)

-- the word is the string of that cell of a function without arguments
pub record IsAnalysis (a : Abstract) (l : List ℕ × Kept) (word : List ℕ) (x : Analysis) : Type 0 where
  pub function : Fun
  pub numbered : slice_get a.funs x.fun ≡ Some function
  pub constant : function.args ≡ []
  pub strings : List (List (List ℕ))
  pub forms : HasForms a function l x.case strings
  pub there : slice_get strings x.cell ≡ Some (word ∷ [])

-- exactly these, each once, by function, then case, then cell
pub record AreAnalyses (a : Abstract) (l : List ℕ × Kept) (word : List ℕ) (xs : List Analysis) : Type 0 where
  pub all : (x : Analysis) → Contains xs x ↔ IsAnalysis a l word x
  pub in_order : AllPairs (λ x y. IsBefore (numbers_of x) (numbers_of y)) xs
