-- Which patterns are listed for words.
use Rattle.std.specs.Prelude.{◌≡◌, ◌≤◌, ℕ, List, Contains, ◌↔◌, AllPairs, []}
use Rattle.std.specs.Cmp.Lexicographic.{slice_cmp}
use Rattle.std.specs.Ordering.{nat_cmp}
use Rattle.std.specs.declared.cmp.Ordering.TheVariants.{Less}
use Rattle.gft_core.specs.declared.tree.Tree.{Tree}
use Rattle.gft_pmcfg.specs.declared.signature.Abstract.{Abstract}
use Rattle.gft_model.specs.Trees.{depth_of, text_of}
use Rattle.gft_model.specs.Typing.{HasType}
use Rattle.gft_model.specs.Brackets.{Piece, erased}
use Rattle.gft_model.specs.Cut.{cut_of}
use Rattle.gft_model.specs.Solutions.{IsSolution}

-- a language, as the bracketed strings of its trees
abbrev pub Language : Type 1
Language = Tree → List Piece → Type 0

-- the pattern is that of a typed tree of the category, within the depth, in a way in which the words are
-- its string
pub record IsListed (a : Abstract) (language : Language) (cat : ℕ) (words : List (List ℕ)) (depth : ℕ)
    (pattern : Tree) : Type 0 where
  pub tree : Tree
  pub indices : List Tree
  pub typed : HasType a [] tree (record { cat = cat; args = indices })
  pub within : depth_of tree ≤ depth
  pub string : List Piece
  pub of_tree : language tree string
  pub words_are : erased string ≡ words
  pub solved : IsSolution a (cut_of tree string) pattern

-- bytes are before others in byte order
abbrev pub IsBefore : List ℕ → List ℕ → Type 0
IsBefore v w = slice_cmp nat_cmp v w ≡ Less

-- the patterns are exactly those that are listed, each once, in byte order of their texts
pub record IsListing (a : Abstract) (language : Language) (cat : ℕ) (words : List (List ℕ)) (depth : ℕ)
    (patterns : List Tree) : Type 0 where
  pub all : (pattern : Tree) → Contains patterns pattern ↔ IsListed a language cat words depth pattern
  pub in_order : AllPairs (λ t s. IsBefore (text_of t) (text_of s)) patterns
