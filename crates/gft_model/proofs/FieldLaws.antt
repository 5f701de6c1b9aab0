-- What is written is read again.
use Rattle.std.proofs.Common.{◌≡◌, ◌≤◌, ◌<◌, ◌+◌, ◌*◌, ◌^◌, ◌/◌, ◌%◌, ℕ, zero, suc, List, [], ◌∷◌, ◌++◌, length, refl, sym, ap, ◌∙◌, arith}
use Rattle.std.proofs.lemmas.Bool.{le-leb}
use Rattle.std.proofs.lemmas.List.{append_assoc, length-append}
use Rattle.std.proofs.lemmas.Nat.{div-add-mod'}
use Rattle.std.proofs.Math.Nat.{div-lt_iff_lt-mul, pow-suc}
use Rattle.std.proofs.Math.Seq.{take-append_seam, drop-append_seam}
use Rattle.gft_model.specs.Fields.{Form, number, bytes, part, done, item, such, big_endian, number_after, written, Fits, got, block, outcome}

-- one more byte
pub after-append : (k : ℕ) (bs : List ℕ) (b : ℕ) → number_after k (bs ++ b ∷ []) ≡ number_after k bs * 256 + b
after-append k [] b = refl
after-append k (c ∷ bs) b = after-append (k * 256 + c) bs b

pub length-big_endian : (width n : ℕ) → length (big_endian width n) ≡ width
length-big_endian zero n = refl
length-big_endian (suc width) n =
    length-append (big_endian width (n / 256)) (n % 256 ∷ [])
    ∙ (let h = length-big_endian width (n / 256) in omega (arith, h))

-- the bytes of a number write that number
pub number-big_endian : (width n : ℕ) → n < 256 ^ width → number_after 0 (big_endian width n) ≡ n
number-big_endian zero n h = omega (arith, h)
number-big_endian (suc width) n h =
    let p = pow-suc 256 width in
    let less : n / 256 < 256 ^ width = (div-lt_iff_lt-mul (omega arith)).1 (rw (← p) h) in
    after-append 0 (big_endian width (n / 256)) (n % 256)
    ∙ ap (λ k. k * 256 + n % 256) (number-big_endian width (n / 256) less) ∙ div-add-mod' n 256

-- the first bytes of a file
pub block-append : (at : ℕ) (bs rest : List ℕ) → block (length bs) at (bs ++ rest) ≡ got bs (at + length bs) rest
block-append at bs rest =
    let fits : length bs ≤ length (bs ++ rest) = omega (arith, length-append bs rest) in
    rw (le-leb (length bs) (length (bs ++ rest)) fits, take-append_seam bs rest, drop-append_seam bs rest) refl

-- the offset behind two pieces, and behind none
further : (at : ℕ) (bs cs : List ℕ) → at + length bs + length cs ≡ at + length (bs ++ cs)
further at bs cs = omega (arith, length-append bs cs)

end_of : (at : ℕ) → at + 0 ≡ at
end_of at = omega arith

-- what is written is read again, whatever follows it
pub read_again : {A : Type 0} (f : Form A) (x : A) (at : ℕ) (rest : List ℕ) → Fits f x
    → outcome f at (written f x ++ rest) ≡ got x (at + length (written f x)) rest
read_again (number width) n at rest h =
    let bs = big_endian width n in
    let whole : block width at (bs ++ rest) ≡ got bs (at + length bs) rest =
    rw (ap (λ w. block w at (bs ++ rest)) (sym (length-big_endian width n))) (block-append at bs rest) in
    rw (whole, number-big_endian width n h) refl
read_again (bytes count) bs at rest h = rw (ap (λ w. block w at (bs ++ rest)) (sym h)) (block-append at bs rest)
read_again (part of f g) x at rest h =
    let first = written f (of x) in
    let second = written (g (of x)) x in
    let one = read_again f (of x) at (second ++ rest) h.0 in
    let two = read_again (g (of x)) x (at + length first) rest h.1 in
    rw (append_assoc first second rest, one, two, further at first second) refl
read_again (done y) x at rest h = rw (h, end_of at) refl
read_again (item f g) [] at rest h = absurd h
read_again (item f g) (x ∷ xs) at rest h =
    let first = written f x in
    let second = written (g x) xs in
    let one = read_again f x at (second ++ rest) h.0 in
    let two = read_again (g x) xs (at + length first) rest h.1 in
    rw (append_assoc first second rest, one, two, further at first second) refl
read_again (such f passes rule back) x at rest h = rw (read_again f x at rest h.0, h.1) refl
