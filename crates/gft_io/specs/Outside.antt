-- What a source, a sink and a store tell of their bytes, and how their counts rise.
use Rattle.std.specs.Prelude.{◌≡◌, ◌⊎◌, ℕ, ◌+◌, ◌<◌, max, min, List, [], ◌++◌, length, take, Option, None, Some, ⊤}
use Rattle.std.specs.Ordering.{nat_cmp}
use Rattle.std.specs.Cmp.Lexicographic.{slice_cmp}
use Rattle.std.specs.FinMap.{FinMap}

-- the last value of a counter of 64 bits
abbrev pub last_count : ℕ
last_count = 18446744073709551615

-- a count that rises by n, and stands at its last value where the sum is greater
abbrev pub raised : ℕ → ℕ → ℕ
raised before n = max before (min (before + n) last_count)

-- a number of faults is greater after a call than before it, or stands at its last value
abbrev pub Rose : ℕ → ℕ → Type 0
Rose old new = (old < new) ⊎ (new ≡ last_count)

-- what was told is told on, and R holds of it; what was not told is not told now either
abbrev pub Told : {A : Type 0} → (A → A → Type 0) → Option A → Option A → Type 0
Told R None None = ⊤
Told R None (Some new) = ⊥
Told R (Some old) None = ⊥
Told R (Some old) (Some new) = R old new

-- it is as it was
abbrev pub Same : {A : Type 0} → A → A → Type 0
Same old new = new ≡ old

-- these bytes were the first of those left, and none are given only where none were left
abbrev pub Gives : List ℕ → List ℕ → List ℕ → Type 0
Gives bytes old new = (old ≡ bytes ++ new) × (length bytes ≡ 0 → old ≡ [])

-- these bytes were added at the end
abbrev pub Appends : List ℕ → List ℕ → List ℕ → Type 0
Appends bytes old new = new ≡ old ++ bytes

-- the first of these bytes, but not all, were added at the end
abbrev pub AppendsPart : List ℕ → List ℕ → List ℕ → Type 0
AppendsPart bytes old new = (n : ℕ) × (n < length bytes) × (new ≡ old ++ take n bytes)

-- the contents of files by their names
abbrev pub Files : Type 0
Files = FinMap (slice_cmp nat_cmp) (List ℕ)
