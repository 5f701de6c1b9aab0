-- Dimensions by category, as they are looked up.
use Rattle.std.specs.Prelude.{ℕ, List, map, slice_get}
use Rattle.std.specs.Option.{option_map_or}
use Rattle.gft_pmcfg.specs.declared.signature.AType.{AType}
use Rattle.gft_pmcfg.specs.declared.concrete.Info.{Info}

-- the number of string cells of a category, 0 past the last one
abbrev pub dim_of : List Info → ℕ → ℕ
dim_of infos cat = option_map_or (λ (i : Info). i.dim) (slice_get infos cat) 0

-- those of arguments of these types
abbrev pub dims_of : List Info → List AType → List ℕ
dims_of infos types = map (λ (t : AType). dim_of infos t.cat) types
