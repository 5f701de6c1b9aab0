use Rattle.std.proofs.Common.{rules, sym, ap, ◌∙◌}
use Rattle.gft_pmcfg.proofs.Indices.{index-App}
use Rattle.gft_pmcfg.proofs.ranges.+index.Goals as goal

pub is_index-returns-then-has_function : goal.is_index-returns-then-has_function
is_index-returns-then-has_function t c = rw (c.in-App.is, index-App _ _ _ _) (search rules)
