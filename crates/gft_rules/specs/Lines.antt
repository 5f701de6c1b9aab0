-- The line of a refusal.
use Rattle.std.specs.Prelude.{ℕ, Option, Some, None, List, [], ◌∷◌, ◌++◌, codes, slice_index_or}
use Rattle.std.specs.List.{flat_map}
use Rattle.std.specs.Fmt.{decimal}
use Rattle.gft_core.specs.declared.place.Place.{Place}
use Rattle.gft_rules.specs.declared.refusal.Refusal.{Refusal}
use Rattle.gft_rules.specs.Rules.{text_of}

-- ` at FILE:LINE:COL`, where the files' names are in the order of their numbers
abbrev pub place_part : Place → List (List ℕ) → List ℕ
place_part p files =
    codes " at " ++ slice_index_or files p.file [] ++ codes ":" ++ decimal p.line ++ codes ":"
    ++ decimal p.col

-- the same, or nothing where there is no place
abbrev pub where_part : Option Place → List (List ℕ) → List ℕ
where_part None files = []
where_part (Some p) files = place_part p files

-- each name with `, ` before it
abbrev pub later_names : List (List ℕ) → List ℕ
later_names names = flat_map (λ n. codes ", " ++ n) names

-- `: ` and the names with `, ` between, or nothing where there are none
abbrev pub names_part : List (List ℕ) → List ℕ
names_part [] = []
names_part (n ∷ ns) = codes ": " ++ n ++ later_names ns

-- `refused RULE`, the place if there is one, and the names if there are any
abbrev pub line_of : Refusal → List (List ℕ) → List ℕ
line_of r files = codes "refused " ++ text_of r.rule ++ where_part r.place files ++ names_part r.names
