use Rattle.std.proofs.Common.{◌≡◌, ◌++◌, take}
use Rattle.gft_unify.specs.Work.{pairs_of}
use Rattle.gft_unify.proofs.unifier.push_pairs.Given as goal

-- the pairs so far are behind those that were there
abbrev pub invariant-each : goal.invariant-each
invariant-each l = pairs_of l.work.items ≡ pairs_of l.initial.work.items ++ take l.pair-index l.pairs
