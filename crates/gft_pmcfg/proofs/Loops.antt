-- One step of a loop over a list that asks whether all of it passes.
use Rattle.std.proofs.Common.{◌≡◌, ◌<◌, ◌&&◌, ℕ, suc, true, false, Bool, List, length, get_or, drop, refl, ap, ◌∙◌}
use Rattle.std.specs.List.{list_all}
use Rattle.std.proofs.Math.Seq.{drop-cons}

-- an element that passes says nothing of the others
pub passes : {X : Type 0} (p : X → Bool) (xs : List X) (i : ℕ) (d : X) → i < length xs → p (get_or xs i d) ≡ true
    → list_all p (drop i xs) ≡ list_all p (drop (suc i) xs)
passes p xs i d b e = ap (list_all p) (drop-cons xs i d b) ∙ rw e refl

-- one that does not pass decides
pub fails : {X : Type 0} (p : X → Bool) (xs : List X) (i : ℕ) (d : X) → i < length xs → p (get_or xs i d) ≡ false
    → list_all p (drop i xs) ≡ false
fails p xs i d b e = ap (list_all p) (drop-cons xs i d b) ∙ rw e refl
