-- What is read fits, and is written as it was read.
use Rattle.std.specs.Prelude.{◌≡◌, ◌<◌, ◌+◌, ◌-◌, ◌*◌, ◌^◌, ℕ, suc, Bool, true, false, nat_le, if◌then◌else◌, List, [], ◌∷◌, ◌++◌, length, take, drop, ⊤}
use Rattle.std.proofs.Common.{refl, sym, ap, ◌∙◌, subst, arith}
use Rattle.std.proofs.lemmas.Bool.{leb-true}
use Rattle.std.proofs.lemmas.List.{append_assoc, append-nil, length-append, length-take-le, take-append-drop}
use Rattle.std.proofs.lemmas.Nat.{div-mul-add, mod-mul-add}
use Rattle.std.proofs.Math.Nat.{pow-suc}
use Rattle.gft_rules.specs.declared.rule.Rule.TheVariants.{Short}
use Rattle.gft_model.specs.Fields.{Form, number, bytes, part, done, item, such, big_endian, number_after, written, Fits, Outcome, got, fault, and_then, block, outcome}
use Rattle.gft_model.specs.Laws.{AreBytes}
use Rattle.gft_model.proofs.FieldLaws.{after-append}

-- the parts of a form are put together as they are taken apart
abbrev pub IsSound : {A : Type 0} → Form A → Type 0
IsSound (number width) = ⊤
IsSound (bytes count) = ⊤
IsSound {A} (part {B} of f g) = IsSound f × ((y : B) → Fits f y → IsSound (g y) × ((x : A) → Fits (g y) x → of x ≡ y))
IsSound (done y) = ⊤
IsSound (item {A = B} f g) = IsSound f × ((x : B) → Fits f x → IsSound (g x))
IsSound (such f passes rule back) = IsSound f

-- what a form reads: a value that fits, whose bytes stood before the rest
pub record IsReadBack {A : Type 0} (f : Form A) (bs : List ℕ) (x : A) (rest : List ℕ) : Type 0 where
  pub fits : Fits f x
  pub are : bs ≡ written f x ++ rest
  pub left : AreBytes rest

-- what a continued reading got, if it got something
pub record Got {A B : Type 0} (o : Outcome A) (next : A → ℕ → List ℕ → Outcome B) (y : B) (last : ℕ)
    (behind : List ℕ) : Type 0 where
  pub value : A
  pub at : ℕ
  pub rest : List ℕ
  pub first : o ≡ got value at rest
  pub second : next value at rest ≡ got y last behind

taken_apart : {A B : Type 0} (o : Outcome A) (next : A → ℕ → List ℕ → Outcome B) (y : B) (last : ℕ) (behind : List ℕ)
    → and_then o next ≡ got y last behind → Got o next y last behind
taken_apart (got x at rest) next y last behind e = record { value = x; at = at; rest = rest; first = refl; second = e }
taken_apart (fault rule at) next y last behind e = cc

-- lists from their ends
from_end : (P : List ℕ → Type 0) → P [] → ((bs : List ℕ) (b : ℕ) → P bs → P (bs ++ b ∷ [])) → (bs : List ℕ) → P bs
from_end P start step bs = go [] bs start where
  go : (before left : List ℕ) → P before → P (before ++ left)
  go before [] p = subst P (sym (append-nil before)) p
  go before (b ∷ left) p = subst P (append_assoc before (b ∷ []) left) (go (before ++ b ∷ []) left (step before b p))

-- the parts of bytes
first_bytes : (bs cs : List ℕ) → AreBytes (bs ++ cs) → AreBytes bs × AreBytes cs
first_bytes [] cs h = (tt, h)
first_bytes (b ∷ bs) cs h = let rest = first_bytes bs cs h.1 in ((h.0, rest.0), rest.1)

-- bytes are those of the number that they write
abbrev IsNumberOf : List ℕ → Type 0
IsNumberOf bs =
    AreBytes bs → (number_after 0 bs < 256 ^ length bs) × (big_endian (length bs) (number_after 0 bs) ≡ bs)

pub number_written : (bs : List ℕ) → IsNumberOf bs
number_written = from_end IsNumberOf (λ h. (omega arith, refl)) one_more where
  one_more : (bs : List ℕ) (b : ℕ) → IsNumberOf bs → IsNumberOf (bs ++ b ∷ [])
  one_more bs b before h =
      let parts = first_bytes bs (b ∷ []) h in
      let rest = before parts.0 in
      let small : b < 256 = parts.1.0 in
      let count : length (bs ++ b ∷ []) ≡ suc (length bs) = omega (arith, length-append bs (b ∷ [])) in
      let value = after-append 0 bs b in
      let power = pow-suc 256 (length bs) in
      let quotient = div-mul-add (number_after 0 bs) 256 b small in
      let remainder = mod-mul-add (number_after 0 bs) 256 b small in
      let less : number_after 0 bs * 256 + b < 256 ^ suc (length bs) = omega (arith, rest.0, small, power) in
      (rw (count, value) less, rw (count, value, quotient, remainder, rest.1) refl)

-- a block
pub block_back : (count at : ℕ) (bs x : List ℕ) (last : ℕ) (rest : List ℕ) → AreBytes bs → block count at bs ≡ got x last rest
    → (length x ≡ count) × (bs ≡ x ++ rest) × AreBytes x × AreBytes rest
block_back count at bs x last rest h e = here (nat_le count (length bs)) refl where
  here : (b : Bool) → nat_le count (length bs) ≡ b → (length x ≡ count) × (bs ≡ x ++ rest) × AreBytes x × AreBytes rest
  here true i =
      let taken : block count at bs ≡ got (take count bs) (at + count) (drop count bs) = rw i refl in
      let both : ◌≡◌ {A = Outcome (List ℕ)} (got (take count bs) (at + count) (drop count bs)) (got x last rest) = sym taken ∙ e in
      let is : take count bs ≡ x = cc in
      let left : drop count bs ≡ rest = cc in
      let parts = first_bytes (take count bs) (drop count bs) (subst AreBytes (sym (take-append-drop count bs)) h) in (
        ap length (sym is) ∙ length-take-le count bs (leb-true count (length bs) i),
        sym (take-append-drop count bs) ∙ ap (λ (ys : List ℕ). ys ++ drop count bs) is ∙ ap (λ (ys : List ℕ). x ++ ys) left,
        subst AreBytes is parts.0,
        subst AreBytes left parts.1,
      )
  here false i =
      let ended : block count at bs ≡ fault Short at = rw i refl in
      let both : ◌≡◌ {A = Outcome (List ℕ)} (fault Short at) (got x last rest) = sym ended ∙ e in cc

-- one piece before another
joined : (bs first second middle rest : List ℕ) → bs ≡ first ++ middle → middle ≡ second ++ rest → bs ≡ first ++ second ++ rest
joined bs first second middle rest e d = e ∙ ap (λ (r : List ℕ). first ++ r) d ∙ sym (append_assoc first second rest)

-- the same for what is equal
moved : {A : Type 0} {f : Form A} {bs : List ℕ} {x y : A} {rest behind : List ℕ} → IsReadBack f bs x rest → x ≡ y
    → rest ≡ behind → IsReadBack f bs y behind
moved {f} {bs} {x} {y} {rest} r e d =
    subst (IsReadBack f bs y) d (subst (λ z. IsReadBack f bs z rest) e r)

pub read_back : {A : Type 0} (f : Form A) → IsSound f → (at : ℕ) (bs : List ℕ) → AreBytes bs → (x : A) (last : ℕ) (rest : List ℕ)
    → outcome f at bs ≡ got x last rest → IsReadBack f bs x rest
read_back (number width) s at bs h x last rest e =
    let t = taken_apart (block width at bs) (λ b next rest. got (number_after 0 b) next rest) x last rest e in
    let blk = block_back width at bs t.value t.at t.rest h t.first in
    let is = number_written t.value blk.2 in
    let value : number_after 0 t.value ≡ x = cc in
    let ends : t.rest ≡ rest = cc in
    moved (record {
      fits = subst (λ n. number_after 0 t.value < 256 ^ n) blk.0 is.0;
      are = blk.1 ∙ ap (λ (b : List ℕ). b ++ t.rest) (sym is.1)
          ∙ ap (λ n. big_endian n (number_after 0 t.value) ++ t.rest) blk.0;
      left = blk.3;
    }) value ends
read_back (bytes count) s at bs h x last rest e =
    let blk = block_back count at bs x last rest h e in record { fits = blk.0; are = blk.1; left = blk.3 }
read_back (part of f g) s at bs h x last rest e =
    let t = taken_apart (outcome f at bs) (λ y next rest. outcome (g y) next rest) x last rest e in
    let one = read_back f s.0 at bs h t.value t.at t.rest t.first in
    let inner = s.1 t.value one.fits in
    let two = read_back (g t.value) inner.0 t.at t.rest one.left x last rest t.second in
    let same : of x ≡ t.value = inner.1 x two.fits in
    record {
      fits = (subst (Fits f) (sym same) one.fits, subst (λ y. Fits (g y) x) (sym same) two.fits);
      are = subst (λ y. bs ≡ written f y ++ written (g y) x ++ rest) (sym same)
          (joined bs (written f t.value) (written (g t.value) x) t.rest rest one.are two.are);
      left = two.left;
    }
read_back (done y) s at bs h x last rest e =
    let value : y ≡ x = cc in
    let ends : bs ≡ rest = cc in record { fits = value; are = ends; left = subst AreBytes ends h }
read_back (item f g) s at bs h x last rest e =
    let t = taken_apart (outcome f at bs) (λ x next rest. and_then (outcome (g x) next rest) (λ xs last behind. got (x ∷ xs) last behind)) x last rest e in
    let u = taken_apart (outcome (g t.value) t.at t.rest) (λ xs last behind. got (t.value ∷ xs) last behind) x last rest t.second in
    let one = read_back f s.0 at bs h t.value t.at t.rest t.first in
    let two = read_back (g t.value) (s.1 t.value one.fits) t.at t.rest one.left u.value u.at u.rest u.first in
    let value : t.value ∷ u.value ≡ x = cc in
    let ends : u.rest ≡ rest = cc in
    moved {f = item f g} {x = t.value ∷ u.value} (record {
      fits = (one.fits, two.fits);
      are = joined bs (written f t.value) (written (g t.value) u.value) t.rest u.rest one.are two.are;
      left = two.left;
    }) value ends
read_back {A} (such f passes rule back) s at bs h x last rest e =
    let t = taken_apart (outcome f at bs) (λ x next rest. if passes x then got x next rest else fault rule (at - back)) x last rest e in
    let one = read_back f s at bs h t.value t.at t.rest t.first in
    tested t.value t.at t.rest one t.second (passes t.value) refl where
      tested : (y : A) (next : ℕ) (r : List ℕ) → IsReadBack f bs y r
          → (if passes y then got y next r else fault rule (at - back)) ≡ got x last rest → (b : Bool) → passes y ≡ b
          → IsReadBack (such f passes rule back) bs x rest
      tested y next r one e true i =
          let is : ◌≡◌ {A = Outcome A} (got y next r) (got x last rest) = sym (rw i refl) ∙ e in
          let value : y ≡ x = cc in
          let ends : r ≡ rest = cc in
          moved {f = such f passes rule back} {x = y} (record { fits = (one.fits, i); are = one.are; left = one.left }) value ends
      tested y next r one e false i =
          let is : ◌≡◌ {A = Outcome A} (fault rule (at - back)) (got x last rest) = sym (rw i refl) ∙ e in cc
