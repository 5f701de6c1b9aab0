use Rattle.gft_tree.proofs.CompareLemmas.{Left}
use Rattle.gft_tree.proofs.compare.+argument.Given as goal

-- what is left decides
abbrev pub invariant-arguments-each : goal.invariant-arguments-each
invariant-arguments-each l = Left l.xs l.ys l.i l.closed
