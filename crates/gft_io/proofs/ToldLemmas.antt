-- Told contents through several calls.
use Rattle.std.proofs.Common.{◌≡◌, ℕ, ◌<◌, List, ◌++◌, length, take, drop, sym, ap, ◌∙◌, arith, append_assoc, length-append, Option, None, Some, Result, Ok, Err, OnErr}
use Rattle.std.proofs.lemmas.List.{take-append-drop}
use Rattle.std.proofs.Math.Seq.{take-append_seam}
use Rattle.gft_io.specs.Outside.{Told, Same, Appends, AppendsPart}

-- a fact of each told content carries over to one that follows from it
pub Told-weaken : {A : Type 0} (P Q : A → A → Type 0) → ((x y : A) → P x y → Q x y) → (o n : Option A) → Told P o n → Told Q o n
Told-weaken P Q f None None h = h
Told-weaken P Q f None (Some y) h = h
Told-weaken P Q f (Some x) None h = h
Told-weaken P Q f (Some x) (Some y) h = f x y h

-- two calls, one after the other
pub Told-join : {A : Type 0} (P Q R : A → A → Type 0) → ((x y z : A) → P x y → Q y z → R x z) → (o m n : Option A) → Told P o m → Told Q m n → Told R o n
Told-join P Q R f None None None h k = tt
Told-join P Q R f None None (Some z) h k = k
Told-join P Q R f None (Some y) n h k = absurd h
Told-join P Q R f (Some x) None n h k = absurd h
Told-join P Q R f (Some x) (Some y) None h k = k
Told-join P Q R f (Some x) (Some y) (Some z) h k = f x y z h k

-- no call keeps what is told
pub Told-none : {A : Type 0} (R : A → A → Type 0) → ((x : A) → R x x) → (o : Option A) → Told R o o
Told-none R f None = tt
Told-none R f (Some x) = f x

-- a fact on the error of a result that is returned
pub on_err : {T E P : Type 0} (r : Result T E) → P → OnErr r P
on_err (Ok x) p = tt
on_err (Err e) p = p

Appends-Same : (bytes front rest : List ℕ) → bytes ≡ front ++ rest → 0 < length rest → (x y z : List ℕ) → Appends front x y → Same y z → AppendsPart bytes x z
Appends-Same bytes front rest whole more x y z h k =
    (length front, omega (arith, ap length whole, length-append front rest), k ∙ h ∙ ap (λ f. x ++ f) (sym (take-append_seam front rest) ∙ ap (take (length front)) (sym whole)))

-- a write that fails after some of the bytes were written
pub Told-part : (bytes front rest : List ℕ) → bytes ≡ front ++ rest → 0 < length rest → (o m n : Option (List ℕ)) → Told (Appends front) o m → Told Same m n → Told (AppendsPart bytes) o n
Told-part bytes front rest whole more = Told-join (Appends front) Same (AppendsPart bytes) (Appends-Same bytes front rest whole more)

-- one more piece is written
pub Told-more : (bytes front rest : List ℕ) (n : ℕ) → bytes ≡ front ++ rest → (o m t : Option (List ℕ)) → Told (Appends front) o m → Told (Appends (take n rest)) m t → (more : List ℕ) × (bytes ≡ more ++ drop n rest) × Told (Appends more) o t
Told-more bytes front rest n whole o m t h k = (
  front ++ take n rest,
  whole ∙ ap (λ r. front ++ r) (sym (take-append-drop n rest)) ∙ sym (append_assoc front (take n rest) (drop n rest)),
  Told-join (Appends front) (Appends (take n rest)) (Appends (front ++ take n rest)) (λ x y z p q. q ∙ ap (λ v. v ++ take n rest) p ∙ append_assoc x front (take n rest)) o m t h k,
)
