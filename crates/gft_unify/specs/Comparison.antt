-- What comparing two trees at their heads finds.
use Rattle.std.specs.Prelude.{◌≡◌, ◌≢◌, ◌⊎◌, ℕ, List, length}
use Rattle.gft_core.specs.declared.tree.Tree.{Tree}
use Rattle.gft_core.specs.declared.tree.Tree.TheVariants.{App, Hole}
use Rattle.gft_unify.specs.declared.compare.Comparison.{Comparison}
use Rattle.gft_unify.specs.declared.compare.Comparison.TheVariants.{Same, Bind, Join, Descend, Clash}
use Rattle.gft_unify.specs.Heads.{IsClash}

-- one tree is the hole k, and t is the other
abbrev pub IsSplit : Tree → Tree → ℕ → Tree → Type 0
IsSplit a b k t = ((a ≡ Hole k) × (b ≡ t)) ⊎ ((b ≡ Hole k) × (a ≡ t))

-- one tree is the hole k, and t, the other, is not
abbrev pub MayBind : Tree → Tree → ℕ → Tree → Type 0
MayBind a b k t = IsSplit a b k t × (t ≢ Hole k)

-- what the comparison says of the trees a and b
abbrev pub IsComparison : Tree → Tree → Comparison → Type 0
IsComparison a b Same = a ≡ b
IsComparison a b (Bind k t) = MayBind a b k t.now
IsComparison a b (Join j k) = (a ≡ Hole j) × (b ≡ Hole k) × (j ≢ k)
IsComparison a b (Descend xs ys) =
    ((f : List ℕ) × (a ≡ App f xs.now) × (b ≡ App f ys.now)) × (length xs.now ≡ length ys.now)
IsComparison a b Clash = IsClash a b
