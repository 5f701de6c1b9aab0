-- Trees: their layers.
use Rattle.gft_core.specs.declared.tree.Tree.{Tree}
use Rattle.gft_core.specs.declared.tree.Tree.TheOpen.{Tree-F}

-- one layer of a tree
abbrev pub Layer : Type 0
Layer = Tree-F Tree
