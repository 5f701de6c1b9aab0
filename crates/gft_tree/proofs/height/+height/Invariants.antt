use Rattle.std.proofs.Common.{◌≡◌, take, map, min}
use Rattle.gft_tree.specs.Trees.{greatest, depth_of}
use Rattle.gft_tree.proofs.height.+height.Given as goal

-- the greatest depth so far
abbrev pub invariant-highest-each : goal.invariant-highest-each
invariant-highest-each l = l.most ≡ min (greatest (map depth_of (take l.tree-index l.trees))) 18446744073709551615
