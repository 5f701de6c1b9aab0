use Rattle.std.proofs.Common.{◌≡◌, drop}
use Rattle.std.specs.List.{list_all}
use Rattle.gft_pmcfg.specs.Ranges.{is_category}
use Rattle.gft_pmcfg.proofs.ranges.categories_fit.Given as goal

-- what is left decides
abbrev pub invariant-each : goal.invariant-each
invariant-each l = list_all (is_category l.a) l.cats ≡ list_all (is_category l.a) (drop l.cat-index l.cats)
