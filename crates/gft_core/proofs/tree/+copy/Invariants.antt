use Rattle.std.proofs.Common.{◌≡◌, take}
use Rattle.gft_core.proofs.tree.+copy.Given as goal

-- the copies so far are the trees so far
abbrev pub invariant-copy_all-each : goal.invariant-copy_all-each
invariant-copy_all-each l = l.copied ≡ take l.tree-index l.trees
