use Rattle.std.proofs.Common.{◌≡◌, drop}
use Rattle.std.specs.List.{list_all}
use Rattle.gft_pmcfg.specs.Ranges.{is_production}
use Rattle.gft_pmcfg.proofs.ranges.productions_fit.Given as goal

-- what is left decides
abbrev pub invariant-each : goal.invariant-each
invariant-each l = list_all (is_production l.funs l.infos) l.prods ≡ list_all (is_production l.funs l.infos) (drop l.p-index l.prods)
