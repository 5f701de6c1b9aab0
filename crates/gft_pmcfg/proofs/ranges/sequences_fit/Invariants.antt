use Rattle.std.proofs.Common.{◌≡◌, drop}
use Rattle.std.specs.List.{list_all}
use Rattle.gft_pmcfg.specs.Ranges.{is_symbol}
use Rattle.gft_pmcfg.proofs.ranges.sequences_fit.Given as goal

-- what is left decides
abbrev pub invariant-each : goal.invariant-each
invariant-each l = list_all (list_all (is_symbol l.dims)) l.seqs ≡ list_all (list_all (is_symbol l.dims)) (drop l.seq-index l.seqs)
