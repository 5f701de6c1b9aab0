-- Keys in strictly ascending order.
use Rattle.std.specs.Prelude.{◌≡◌, ◌<◌, ℕ, zero, suc, true, false, List, [], ◌∷◌, length, map, bytes_eq, slice_index_or, Option, Some, ⊤, Bool}
use Rattle.std.specs.Cmp.Lexicographic.{slice_cmp, nat_list_cmp_total}
use Rattle.std.specs.List.{position_or_len}
use Rattle.std.specs.Ordering.{nat_cmp, is_lt}
use Rattle.std.specs.declared.cmp.Ordering.{Ordering}
use Rattle.std.specs.declared.cmp.Ordering.TheVariants.{Less, Equal, Greater}
use Rattle.std.proofs.Common.{refl, sym, ap, ◌∙◌, arith}
use Rattle.std.proofs.lemmas.Slice.Eq.{bytes_eq-Decides}
use Rattle.gft_model.specs.Fields.{Form, Fits}
use Rattle.gft_model.specs.FileForms.{comes_after, ascending}

pub less : (o : Ordering) → is_lt o ≡ true → o ≡ Less
less Less e = refl
less Equal e = cc
less Greater e = cc

-- each key comes after the one before it
abbrev pub Rise : Option (List ℕ) → List (List ℕ) → Type 0
Rise before [] = ⊤
Rise before (k ∷ ks) = (comes_after before k ≡ true) × Rise (Some k) ks

pub keys_rise : {A : Type 0} (key : A → List ℕ) (f : Form A) (before : Option (List ℕ)) (n : ℕ) (xs : List A)
    → Fits (ascending key f before n) xs → Rise before (map key xs)
keys_rise key f before zero [] h = tt
keys_rise key f before zero (x ∷ xs) h = cc
keys_rise key f before (suc n) [] h = tt
keys_rise key f before (suc n) (x ∷ xs) h = (h.0.1, keys_rise key f (Some (key x)) n xs h.1)

-- a key behind another is not that one
pub irreflexive : (k : List ℕ) → ¬ (comes_after (Some k) k ≡ true)
irreflexive k h =
    let one : slice_cmp nat_cmp k k ≡ Less = less _ h in
    let two = nat_list_cmp_total.antisymm k k in cc

-- the keys behind a key all come after it
pub behind : (before : List ℕ) (ks : List (List ℕ)) (i : ℕ) → Rise (Some before) ks → i < length ks
    → comes_after (Some before) (slice_index_or ks i []) ≡ true
behind before [] i h b = absurd (omega (arith, b))
behind before (k ∷ ks) zero h b = h.0
behind before (k ∷ ks) (suc i) h b =
    let rest = behind k ks i h.1 (omega (arith, b)) in
    let through = nat_list_cmp_total.trans before k (slice_index_or ks i []) (less _ h.0) (less _ rest) in ap is_lt through

differs : (v w : List ℕ) → ¬ (v ≡ w) → bytes_eq v w ≡ false
differs v w n = here (bytes_eq v w) refl where
  here : (b : Bool) → bytes_eq v w ≡ b → bytes_eq v w ≡ false
  here true e = absurd (n ((bytes_eq-Decides v w).0 e))
  here false e = e

-- so each key is found at its own place
pub own_place : (before : Option (List ℕ)) (ks : List (List ℕ)) (i : ℕ) → Rise before ks → i < length ks
    → position_or_len (bytes_eq (slice_index_or ks i [])) ks ≡ i
own_place before [] i h b = absurd (omega (arith, b))
own_place before (k ∷ ks) zero h b = let same = (bytes_eq-Decides k k).1 refl in rw same refl
own_place before (k ∷ ks) (suc i) h b =
    let key = slice_index_or ks i [] in
    let after : comes_after (Some k) key ≡ true = behind k ks i h.1 (omega (arith, b)) in
    let other : bytes_eq key k ≡ false = differs key k (λ e. irreflexive k (ap (comes_after (Some k)) (sym e) ∙ after)) in
    rw (other, own_place (Some k) ks i h.1 (omega (arith, b))) (omega arith)
