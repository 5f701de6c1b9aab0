-- Skeleton sentences, their beginnings, and the words that may come next.
use Rattle.std.specs.Prelude.{◌≡◌, ℕ, List, [], ◌∷◌, ◌++◌, map, ◌⊎◌}
use Rattle.gft_core.specs.declared.tree.Tree.{Tree}
use Rattle.gft_pmcfg.specs.declared.signature.Abstract.{Abstract}
use Rattle.gft_model.specs.Skeleton.{IsSkeletonTree}
use Rattle.gft_model.specs.Brackets.{Mark, Piece, erased, marked}
use Rattle.gft_model.specs.Listing.{Language}

-- the words are a string of a skeleton tree of the category
pub record IsSentence (a : Abstract) (language : Language) (cat : ℕ) (words : List (List ℕ)) : Type 0 where
  pub tree : Tree
  pub of_category : IsSkeletonTree a tree cat
  pub string : List Piece
  pub of_tree : language tree string
  pub words_are : erased string ≡ words

-- the words begin a sentence; no words always do
abbrev pub Begins : Abstract → Language → ℕ → List (List ℕ) → Type 0
Begins a language cat words = (words ≡ []) ⊎ ((rest : List (List ℕ)) × IsSentence a language cat (words
    ++ rest))

-- the word with its mark stands right after the words in a string of a skeleton tree of the category that begins with them
pub record IsNext (a : Abstract) (language : Language) (cat : ℕ) (words : List (List ℕ)) (mark : Mark)
    (word : List ℕ) : Type 0 where
  pub whole : List (List ℕ)
  pub sentence : IsSentence a language cat whole
  pub before : List (Mark × List ℕ)
  pub after : List (Mark × List ℕ)
  pub parts : marked sentence.string ≡ before ++ (mark, word) ∷ after
  pub begins : map (λ (w : Mark × List ℕ). w.1) before ≡ words
