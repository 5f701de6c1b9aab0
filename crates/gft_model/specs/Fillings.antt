-- Fillings of patterns, and how deep runs are.
use Rattle.std.specs.Prelude.{◌≡◌, ◌≤◌, ℕ, suc, List, [], Contains, Some}
use Rattle.gft_core.specs.declared.tree.Tree.{Tree}
use Rattle.gft_pmcfg.specs.Layers.{by_layers}
use Rattle.gft_pmcfg.specs.declared.concrete.Concrete.{Concrete}
use Rattle.gft_pmcfg.specs.declared.run.Run.{Run}
use Rattle.gft_pmcfg.specs.declared.run.Run.TheOpen.{Run-F}
use Rattle.gft_pmcfg.specs.declared.run.Run.TheOpen as layer
use Rattle.gft_pmcfg.specs.declared.signature.AType.{AType}
use Rattle.gft_pmcfg.specs.declared.signature.Abstract.{Abstract}
use Rattle.gft_tree.specs.Trees.{greatest}
use Rattle.gft_model.specs.Runs.{IsRun, holes_of, tree_of}
use Rattle.gft_model.specs.Trees.{IsHole, IsInstance, depth_of, subtree_at}
use Rattle.gft_model.specs.Typing.{HasType}

-- a literal and a hole have depth 1, an application one more than its deepest argument
abbrev pub depth_step : Run-F ℕ → ℕ
depth_step (layer.App p ds) = suc (greatest ds)
depth_step d = 1

abbrev pub depth_of_run : Run → ℕ
depth_of_run = by_layers ℕ depth_step

-- the tree has a run without holes to the nonterminal
abbrev pub HasRun : Abstract → Concrete → Tree → ℕ → Type 0
HasRun a c t n = (r : Run) × IsRun c r n × (holes_of r ≡ []) × (tree_of a c r ≡ t)

-- a filling of a pattern: a closed typed instance within the depth, whose part at each hole has a run to the hole's nonterminal
pub record IsFilling (a : Abstract) (c : Concrete) (pattern : Tree) (holes : List (ℕ × ℕ)) (depth : ℕ) (t : Tree) : Type 0 where
  pub instance : IsInstance pattern t
  pub type : AType
  pub typed : HasType a [] t type
  pub within : depth_of t ≤ depth
  pub runs : (p : List ℕ) (k n : ℕ) (u v : Tree) → subtree_at pattern p ≡ Some u → IsHole u k → Contains holes (k, n) →
      subtree_at t p ≡ Some v → HasRun a c v n
