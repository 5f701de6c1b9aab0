use Rattle.std.proofs.Common.{◌≡◌, drop}
use Rattle.std.specs.List.{list_all}
use Rattle.gft_pmcfg.specs.Ranges.{is_ref}
use Rattle.gft_pmcfg.proofs.ranges.refs_fit.Given as goal

-- what is left decides
abbrev pub invariant-each : goal.invariant-each
invariant-each l = list_all (is_ref l.infos) l.refs ≡ list_all (is_ref l.infos) (drop l.r-index l.refs)
