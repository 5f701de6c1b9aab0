use Rattle.std.proofs.Common.{◌≡◌, drop, length}
use Rattle.gft_pmcfg.specs.Ranges.{are_of}
use Rattle.gft_pmcfg.proofs.ranges.are_of.Given as goal

-- what is left decides
abbrev pub invariant-each : goal.invariant-each
invariant-each l = are_of l.infos l.types l.args ≡ are_of l.infos (drop l.i l.types) (drop l.i l.args)
