-- All trees of a category within a depth.
use Rattle.std.specs.Prelude.{◌↔◌, ◌≤◌, ℕ, List, [], ◌∷◌, ◌++◌, flat_map, codes, All, AllPairs, Contains}
use Rattle.gft_core.specs.declared.tree.Tree.{Tree, Int, Str}
use Rattle.gft_core.specs.declared.tree.Tree.TheOpen.{Tree-F}
use Rattle.gft_core.specs.declared.tree.Tree.TheOpen as layer
use Rattle.gft_core.specs.declared.tree.Tree.TheFolds.{fold-Tree}
use Rattle.gft_pmcfg.specs.declared.signature.AType.{AType}
use Rattle.gft_pmcfg.specs.declared.signature.Cat.{Cat}
use Rattle.gft_pmcfg.specs.declared.signature.Abstract.{Abstract}
use Rattle.gft_model.specs.Listing.{IsBefore}
use Rattle.gft_model.specs.Trees.{depth_of, text_of}
use Rattle.gft_model.specs.Typing.{HasType, signature_of}

-- the literals in a tree, in the order of its text
abbrev pub literals_step : Tree-F (List Tree) → List Tree
literals_step (layer.App f ls) = flat_map (λ l. l) ls
literals_step (layer.Int n) = Int n ∷ []
literals_step (layer.Str w) = Str w ∷ []
literals_step (layer.Hole k) = []

abbrev pub literals_of : Tree → List Tree
literals_of = fold-Tree (List Tree) literals_step

-- the types of an abstract syntax: those of contexts, of arguments and of results
abbrev pub types_of : Abstract → List AType
types_of a = flat_map (λ (c : Cat). c.context) a.cats ++ flat_map signature_of a.funs

-- the literals that a generated tree may hold: 0, "x", and those in types
abbrev pub literals_in : Abstract → List Tree
literals_in a = Int 0 ∷ Str (codes "x") ∷ flat_map (λ (t : AType). flat_map literals_of t.args) (types_of a)

-- a closed typed tree of the category, within the depth, of such literals
pub record IsGenerated (a : Abstract) (cat depth : ℕ) (tree : Tree) : Type 0 where
  pub indices : List Tree
  pub typed : HasType a [] tree (record { cat = cat; args = indices })
  pub within : depth_of tree ≤ depth
  pub literals : All (Contains (literals_in a)) (literals_of tree)

-- exactly these trees, each once, in byte order of their texts
pub record AreGenerated (a : Abstract) (cat depth : ℕ) (trees : List Tree) : Type 0 where
  pub all : (t : Tree) → Contains trees t ↔ IsGenerated a cat depth t
  pub in_order : AllPairs (λ t s. IsBefore (text_of t) (text_of s)) trees
