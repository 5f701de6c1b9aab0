use Rattle.std.proofs.Common.{◌≡◌, drop}
use Rattle.std.specs.List.{list_all}
use Rattle.gft_pmcfg.specs.Ranges.{is_concrete}
use Rattle.gft_pmcfg.proofs.ranges.is_in_range.Given as goal

-- what is left decides
abbrev pub invariant-each : goal.invariant-each
invariant-each l = list_all (is_concrete l.a) l.concretes ≡ list_all (is_concrete l.a) (drop l.c-index l.concretes)
