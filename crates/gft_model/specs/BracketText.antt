-- Bracketed strings as texts.
use Rattle.std.specs.Prelude.{◌≡◌, ◌↔◌, ℕ, List, [], ◌∷◌, ◌++◌, drop, flat_map, codes, AllPairs, Contains, Option, Some, None}
use Rattle.gft_core.specs.declared.tree.Tree.{Tree, out-Tree}
use Rattle.gft_core.specs.declared.tree.Tree.TheOpen.{Tree-F}
use Rattle.gft_core.specs.declared.tree.Tree.TheOpen as layer
use Rattle.gft_model.specs.Brackets.{Piece, word, opens, closes}
use Rattle.gft_model.specs.Listing.{Language, IsBefore}
use Rattle.gft_model.specs.Trees.{text_of, subtree_at}

-- the head of a tree: its function, or the text of a literal or hole
abbrev pub head_of : Tree → Tree-F Tree → List ℕ
head_of t (layer.App f ts) = f
head_of t d = text_of t

-- the head of the subtree at a position
abbrev pub head_at : Tree → List ℕ → List ℕ
head_at t p = elim (subtree_at t p) [ None ↦ [] | Some u ↦ head_of u (out-Tree u) ]

-- a piece behind others: a word, or a bracket with its head, each after one space
abbrev pub piece_text : Tree → Piece → List ℕ
piece_text t (word m w) = 32 ∷ w
piece_text t (opens p) = codes " (" ++ head_at t p
piece_text t closes = codes ")"

-- the text of a bracketed string of a tree; nothing stands before its first piece
abbrev pub bracket_text : Tree → List Piece → List ℕ
bracket_text t b = drop 1 (flat_map (piece_text t) b)

-- exactly the texts of the bracketed strings of a tree, each once, in byte order
pub record AreBracketTexts (L : Language) (t : Tree) (texts : List (List ℕ)) : Type 0 where
  pub all : (text : List ℕ) → Contains texts text ↔ ((b : List Piece) × L t b × (bracket_text t b ≡ text))
  pub in_order : AllPairs IsBefore texts
