use Rattle.std.proofs.Common.{◌≡◌, take}
use Rattle.gft_pmcfg.specs.Dimensions.{dims_of}
use Rattle.gft_pmcfg.proofs.ranges.put_dims.Given as goal

-- the dimensions of the types so far
abbrev pub invariant-each : goal.invariant-each
invariant-each l = l.dims.items ≡ dims_of l.infos (take l.t-index l.types)
