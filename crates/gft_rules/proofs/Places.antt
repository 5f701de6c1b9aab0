-- Places in a mapped list.
use Rattle.std.proofs.Common.{◌≡◌, ◌+◌, suc, Bool, not, cond, List, [], ◌∷◌, map, length, position, refl, ap}
use Rattle.std.specs.List.{position_or_len}

-- the first place that passes, in a mapped list
pub position_or_len-map : {A B : Type 0} (f : A → B) (p : B → Bool) (xs : List A) → position_or_len p (map f xs) ≡ position_or_len (λ x. p (f x)) xs
position_or_len-map f p [] = refl
position_or_len-map f p (x ∷ xs) = ap (λ n. cond (not (p (f x))) (1 + n) 0) (position_or_len-map f p xs)

pub length-map : {A B : Type 0} (f : A → B) (xs : List A) → length (map f xs) ≡ length xs
length-map f [] = refl
length-map f (x ∷ xs) = ap suc (length-map f xs)

pub position-map : {A B : Type 0} (f : A → B) (p : B → Bool) (xs : List A) → position (λ x. p (f x)) xs ≡ position p (map f xs)
position-map f p xs = rw (position_or_len-map f p xs, length-map f xs)
