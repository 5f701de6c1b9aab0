use Rattle.std.proofs.Common.{◌≡◌, ◌++◌, take, zip}
use Rattle.gft_unify.specs.Work.{pairs_of}
use Rattle.gft_unify.proofs.work.push_zipped.Given as goal

-- the pairs so far are behind those that were there
abbrev pub invariant-each : goal.invariant-each
invariant-each l = pairs_of l.work.items ≡ pairs_of l.initial.work.items ++ zip (take l.index l.left) (take l.index l.right)
