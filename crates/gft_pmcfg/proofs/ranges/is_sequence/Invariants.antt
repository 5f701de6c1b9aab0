use Rattle.std.proofs.Common.{◌≡◌, drop}
use Rattle.std.specs.List.{list_all}
use Rattle.gft_pmcfg.specs.Ranges.{is_symbol}
use Rattle.gft_pmcfg.proofs.ranges.is_sequence.Given as goal

-- what is left decides
abbrev pub invariant-each : goal.invariant-each
invariant-each l = list_all (is_symbol l.dims) l.symbols ≡ list_all (is_symbol l.dims) (drop l.symbol-index l.symbols)
