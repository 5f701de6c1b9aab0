use Rattle.std.proofs.Common.{◌≡◌, drop}
use Rattle.std.specs.List.{list_all}
use Rattle.gft_pmcfg.specs.Ranges.{is_function}
use Rattle.gft_pmcfg.proofs.ranges.functions_fit.Given as goal

-- what is left decides
abbrev pub invariant-each : goal.invariant-each
invariant-each l = list_all (is_function l.a) l.funs ≡ list_all (is_function l.a) (drop l.fun-index l.funs)
