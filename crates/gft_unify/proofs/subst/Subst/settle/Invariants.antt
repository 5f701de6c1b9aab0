use Rattle.std.proofs.Common.{take}
use Rattle.gft_unify.specs.Bindings.{HasSolvedFirst}
use Rattle.gft_unify.proofs.subst.Subst.settle.Given as goal

-- the first bindings are solved
abbrev pub invariant-each : goal.invariant-each
invariant-each l = HasSolvedFirst l.trees.entries (take l.index l.store) l.store
