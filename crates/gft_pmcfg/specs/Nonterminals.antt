-- Nonterminals, numbered category after category.
use Rattle.std.specs.Prelude.{ℕ, ◌+◌, ◌-◌, List, [], ◌∷◌, nat_lt, if◌then◌else◌, slice_get}
use Rattle.std.specs.Option.{option_map_or}
use Rattle.gft_pmcfg.specs.declared.concrete.Info.{Info}
use Rattle.gft_pmcfg.specs.declared.concrete.Concrete.{Concrete}

-- how many nonterminals the categories have: one for each case
abbrev pub nonterminals_of : List Info → ℕ
nonterminals_of [] = 0
nonterminals_of (i ∷ is) = i.count + nonterminals_of is

-- the category of a nonterminal; for a number past the last one, the number of categories
abbrev pub category_of : List Info → ℕ → ℕ
category_of [] n = 0
category_of (i ∷ is) n = if nat_lt n i.count then 0 else 1 + category_of is (n - i.count)

-- the number of string cells of a nonterminal; for a number past the last one 0
abbrev pub dimension_of : List Info → ℕ → ℕ
dimension_of [] n = 0
dimension_of (i ∷ is) n = if nat_lt n i.count then i.dim else dimension_of is (n - i.count)

-- what the concrete syntax of a number makes of the categories
abbrev pub infos_at : List Concrete → ℕ → List Info
infos_at cs lang = option_map_or (λ (c : Concrete). c.infos) (slice_get cs lang) []
