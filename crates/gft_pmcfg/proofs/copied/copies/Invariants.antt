use Rattle.std.proofs.Common.{◌≡◌, take}
use Rattle.gft_pmcfg.proofs.copied.copies.Given as goal

-- the values so far are copied
abbrev pub invariant-loop-value : goal.invariant-loop-value
invariant-loop-value g l = l.copies ≡ take l.value-index l.values
