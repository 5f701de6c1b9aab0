use Rattle.std.proofs.Common.{◌≡◌, drop}
use Rattle.std.specs.List.{list_all}
use Rattle.gft_pmcfg.specs.Ranges.{is_index}
use Rattle.gft_pmcfg.proofs.ranges.+index.Given as goal

-- what is left decides
abbrev pub invariant-are_indices-each : goal.invariant-are_indices-each
invariant-are_indices-each l = list_all (is_index l.funs l.n) l.trees ≡ list_all (is_index l.funs l.n) (drop l.tree-index l.trees)
