use Rattle.std.proofs.Common.{◌≡◌, drop}
use Rattle.gft_pmcfg.specs.Ranges.{are_types}
use Rattle.gft_pmcfg.proofs.ranges.are_types.Given as goal

-- what is left decides
abbrev pub invariant-each : goal.invariant-each
invariant-each l = are_types l.a 0 l.types ≡ are_types l.a l.n (drop l.n l.types)
