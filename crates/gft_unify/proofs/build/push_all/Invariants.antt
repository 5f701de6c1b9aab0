use Rattle.std.proofs.Common.{◌≡◌, ◌++◌, take}
use Rattle.gft_unify.specs.Bindings.{trees_of}
use Rattle.gft_unify.proofs.build.push_all.Given as goal

-- the trees so far are behind those that were there
abbrev pub invariant-each : goal.invariant-each
invariant-each l = trees_of l.pending.items ≡ trees_of l.initial.pending.items ++ take l.tree-index l.trees
