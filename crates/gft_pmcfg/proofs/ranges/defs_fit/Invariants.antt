use Rattle.std.proofs.Common.{◌≡◌, drop}
use Rattle.std.specs.List.{list_all}
use Rattle.gft_pmcfg.specs.Ranges.{is_def}
use Rattle.gft_pmcfg.proofs.ranges.defs_fit.Given as goal

-- what is left decides
abbrev pub invariant-each : goal.invariant-each
invariant-each l = list_all (is_def l.infos) l.defs ≡ list_all (is_def l.infos) (drop l.d-index l.defs)
