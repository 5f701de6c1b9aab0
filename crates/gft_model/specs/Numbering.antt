-- Terms as they stand in a file: functions by their numbers.
use Rattle.std.specs.Prelude.{ℕ, suc, ◌-◌, List, [], ◌∷◌, map, bytes_eq, slice_index_or}
use Rattle.std.specs.List.{position_or_len}
use Rattle.gft_core.specs.declared.tree.Tree.{Tree, App, Int, Str, Hole, fold-Tree}
use Rattle.gft_core.specs.declared.tree.Tree.TheOpen.{Tree-F}
use Rattle.gft_core.specs.declared.tree.Tree.TheOpen as layer
use Rattle.gft_pmcfg.specs.declared.signature.AType.{AType}
use Rattle.gft_pmcfg.specs.declared.signature.Cat.{Cat}
use Rattle.gft_pmcfg.specs.declared.signature.Fun.{Fun}
use Rattle.gft_pmcfg.specs.declared.signature.Abstract.{Abstract}

-- a term with the number of a function in the place of its name, and variables from 0
abbrev pub numbered_step : List (List ℕ) → Tree-F Tree → Tree
numbered_step names (layer.App f ts) = App (position_or_len (bytes_eq f) names ∷ []) ts
numbered_step names (layer.Hole k) = Hole (k - 1)
numbered_step names (layer.Int n) = Int n
numbered_step names (layer.Str w) = Str w

-- with the name of a function in the place of its number, and variables from 1
abbrev pub named_step : List (List ℕ) → Tree-F Tree → Tree
named_step names (layer.App f ts) = App (slice_index_or names (slice_index_or f 0 0) []) ts
named_step names (layer.Hole k) = Hole (suc k)
named_step names (layer.Int n) = Int n
named_step names (layer.Str w) = Str w

-- each term of a type changed by a step
abbrev pub changed_type : (Tree-F Tree → Tree) → AType → AType
changed_type step t = record { cat = t.cat; args = map (fold-Tree Tree step) t.args }

-- of all types of an abstract syntax
abbrev pub changed : (Tree-F Tree → Tree) → Abstract → Abstract
changed step a = record a {
  cats = map (λ (c : Cat). record c { context = map (changed_type step) c.context }) a.cats;
  funs = map (λ (f : Fun). record f { args = map (changed_type step) f.args; result = changed_type step f.result }) a.funs;
}

-- the names of its functions
abbrev pub names_of : List Fun → List (List ℕ)
names_of fs = map (λ (f : Fun). f.name) fs

abbrev pub numbered : Abstract → Abstract
numbered a = changed (numbered_step (names_of a.funs)) a

abbrev pub named : Abstract → Abstract
named a = changed (named_step (names_of a.funs)) a
