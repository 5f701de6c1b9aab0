-- The part of a buffer that is not consumed yet.
use Rattle.std.proofs.Common.{ℕ, ◌+◌, ◌-◌, ◌≤◌, List, length, take, min, drop, ◌++◌, ◌<◌, ◌≡◌, sym, ap, ◌∙◌, arith, length-take}
use Rattle.std.proofs.lemmas.List.{drop-take, drop-drop, take-append-le, take-append-drop, length-take-le, take-take, nil_from_length}
use Rattle.std.proofs.lemmas.Slice.{between_to_end}
use Rattle.gft_io.specs.Outside.{Gives}

-- what is left of a part when its first bytes are dropped
pub consumed : (b : List ℕ) (s e n : ℕ) → s ≤ e → e ≤ length b → n ≤ length (take (e - s) (drop s b)) → take (e - (s + n)) (drop (s + n) b) ≡ drop n (take (e - s) (drop s b))
consumed b s e n se el h =
    let all : n ≤ e - s = omega (arith, length-take (e - s) (drop s b)) in
    let m : e - s ≡ n + (e - (s + n)) = omega arith in
    sym (ap (λ k. drop n (take k (drop s b))) m ∙ drop-take n (e - (s + n)) (drop s b) ∙ ap (take (e - (s + n))) (drop-drop n s b))

-- what `&b[at..]` is
rest_is : (b d : List ℕ) (at : ℕ) → d ≡ b → take (length d - at) (drop at d) ≡ drop at b
rest_is b d at e = between_to_end d at (length d) (omega arith) ∙ ap (drop at) e

-- a copy of the first n bytes that are left to the front of a buffer
pub copied_front : (b d buffer front : List ℕ) (at n : ℕ) → d ≡ b → n ≡ min (length (take (length d - at) (drop at d))) (length buffer) → front ≡ take n (take (length d - at) (drop at d)) → 0 < length buffer → Gives (take n (front ++ drop n buffer)) (drop at b) (drop (at + n) b)
copied_front b d buffer front at n e size same some =
    let left : List ℕ = drop at b in
    let is_left = rest_is b d at e in
    let n_left : n ≡ min (length left) (length buffer) = size ∙ ap (λ v. min (length v) (length buffer)) is_left in
    let same_left : front ≡ take n left = same ∙ ap (take n) is_left in
    let n_front : length front ≡ n = ap length same_left ∙ length-take-le n left (omega arith) in
    let is_front : take n (front ++ drop n buffer) ≡ take n left =
    take-append-le n front (drop n buffer) (omega (arith, n_front)) ∙ ap (take n) same_left ∙ take-take n n left (omega arith) in (
      sym (take-append-drop n left) ∙ ap (λ v. v ++ drop n left) (sym is_front) ∙ ap (λ v. take n (front ++ drop n buffer) ++ v) (drop-drop n at b),
      λ none. nil_from_length left (omega (arith, none, ap length is_front, length-take-le n left (omega arith))),
    )
