-- Why no substitution makes pairs of trees equal.
use Rattle.std.specs.Prelude.{◌≢◌, ℕ, List}
use Rattle.gft_core.specs.declared.tree.Tree.{Tree}
use Rattle.gft_core.specs.declared.tree.Tree.TheVariants.{Hole}
use Rattle.gft_unify.specs.declared.error.UnifyErr.{UnifyErr}
use Rattle.gft_unify.specs.declared.error.UnifyErr.TheVariants.{Clash, Occurs, NoMemory}
use Rattle.gft_unify.specs.Instances.{StandsIn}
use Rattle.gft_unify.specs.Heads.{IsClash}
use Rattle.gft_unify.specs.Parts.{IsPart}
use Rattle.gft_unify.specs.Substitutions.{HasNoUnifier}

-- two parts of the pairs whose heads keep them apart
abbrev pub IsClashOfParts : List (Tree × Tree) → Tree → Tree → Type 0
IsClashOfParts pairs a b = IsPart pairs a × IsPart pairs b × IsClash a b

-- a hole of the pairs, and another tree in which it stands
abbrev pub IsCycle : List (Tree × Tree) → ℕ → Tree → Type 0
IsCycle pairs k t = IsPart pairs (Hole k) × StandsIn k t × (t ≢ Hole k)

-- the cause of each answer but a substitution; want of memory has none
abbrev pub IsRefused : List (Tree × Tree) → UnifyErr → Type 0
IsRefused pairs (Clash a b) = HasNoUnifier pairs × IsClashOfParts pairs a b
IsRefused pairs (Occurs k t) = HasNoUnifier pairs × IsCycle pairs k t
IsRefused pairs NoMemory = Unit {0}
