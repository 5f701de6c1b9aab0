use Rattle.std.proofs.Common.{◌≡◌, drop}
use Rattle.gft_pmcfg.specs.Ranges.{are_infos}
use Rattle.gft_pmcfg.proofs.ranges.are_infos.Given as goal

-- what is left decides
abbrev pub invariant-each : goal.invariant-each
invariant-each l = are_infos 0 l.infos ≡ are_infos l.next (drop l.info-index l.infos)
