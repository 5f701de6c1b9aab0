-- A law of what texts spell.
use Rattle.std.specs.Prelude.{◌≡◌, ℕ, List}
use Rattle.gft_core.specs.declared.tree.Tree.{Tree}
use Rattle.gft_tree.specs.Spelling.{Spells}

-- a text spells at most one tree
abbrev pub TreeIsSpelledOnce : Type 0
TreeIsSpelledOnce = (text : List ℕ) (t u : Tree) → Spells text t → Spells text u → t ≡ u
