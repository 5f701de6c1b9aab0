-- What is kept and what is still to be cut, through the parts of a call.
use Rattle.std.proofs.Common.{◌≡◌, ◌≢◌, ◌⊎◌, ℕ, ◌+◌, ◌-◌, ◌<◌, ◌≤◌, List, [], ◌++◌, length, refl, sym, ap, ◌∙◌, subst, arith, inl, inr, append_assoc, append-nil, length-append, Option, None, Some, is_some}
use Rattle.std.proofs.lemmas.List.Elements.{All-append, All-nil}
use Rattle.gft_io.specs.Outside.{raised, Told, Same, Gives}
use Rattle.gft_io.specs.Lines.{line_limit, input_limit, HasNoNewline, line_size}
use Rattle.gft_io.specs.Sound.{IsSound}
use Rattle.gft_io.specs.Place.{Place, count, Holds, Pends}
use Rattle.gft_io.specs.Steps.{with_ahead, without_line, GoesOn, IsAtEnd, IsLate}
use Rattle.gft_io.proofs.LineLemmas.{line_size-late}
use Rattle.gft_io.proofs.ToldLemmas.{Told-weaken}

pub none-append : (a b : List ℕ) → HasNoNewline a → HasNoNewline b → HasNoNewline (a ++ b)
none-append a b h k = All-append (λ byte. byte ≢ 10) a b h k

pub none-nil : HasNoNewline []
none-nil = All-nil (λ byte. byte ≢ 10)

-- the invariant after what was read ahead was dropped with the begun line
pub sound_without : (p s a t : ℕ) (begun begun' : List ℕ) (a' : ℕ) → IsSound p s begun a → t ≡ s + length begun + a → line_limit < t → p + s + length begun + a ≤ input_limit → begun' ≡ [] → a' ≡ 0 → IsSound p t begun' a'
sound_without p s a t begun begun' a' h e long room none empty =
    let n : length begun' ≡ 0 = ap length none in
    record {
      unended = let P : List ℕ → Type 0 = HasNoNewline in subst P (sym none) none-nil;
      short = omega arith;
      dropped = λ _. long;
      alone = λ _. n;
      room = omega arith;
      bound = omega arith;
      last = λ over. omega arith;
    }

-- the invariant after what was read ahead was added to the begun line
pub sound_with : (p s a : ℕ) (begun ahead begun' : List ℕ) (a' : ℕ) → IsSound p s begun a → HasNoNewline ahead → length ahead ≡ a → s + length begun + a ≤ line_limit → p + s + length begun + a ≤ input_limit → begun' ≡ begun ++ ahead → a' ≡ 0 → IsSound p s begun' a'
sound_with p s a begun ahead begun' a' h line is short room whole empty =
    let n : length begun' ≡ length begun + a = omega (arith, ap length whole, length-append begun ahead) in
    record {
      unended = let P : List ℕ → Type 0 = HasNoNewline in subst P (sym whole) (none-append begun ahead h.unended line);
      short = omega arith;
      dropped = h.dropped;
      alone = λ some. omega (arith, h.dropped some);
      room = omega arith;
      bound = omega arith;
      last = λ over. omega arith;
    }

-- a reader that took more than the limit stands before a line that ends past it
pub late : (place : Place) → IsSound place.passed place.skipped place.begun (length place.ahead) → input_limit < count place → IsLate place
late place h over bytes more holds =
    let front : List ℕ = holds.0 ++ place.begun in
    let base : place.passed + place.skipped + length place.begun ≡ input_limit = h.last over in
    let n : length front ≡ place.skipped + length place.begun = omega (arith, length-append holds.0 place.begun, holds.2) in
    let whole : bytes ++ more ≡ front ++ (place.ahead ++ more) =
    ap (λ b. b ++ more) (holds.3 ∙ sym (append_assoc holds.0 place.begun place.ahead)) ∙ append_assoc front place.ahead more in
    let some : 0 < length (place.ahead ++ more) = omega (arith, length-append place.ahead more) in
    let k : length front < line_size (front ++ (place.ahead ++ more)) = line_size-late front (place.ahead ++ more) (none-append holds.0 place.begun holds.1 h.unended) some in
    omega (arith, ap line_size whole)

raised-zero : (t : ℕ) → t ≡ raised t 0
raised-zero t = omega arith

pub raised-twice : (t a b : ℕ) → raised (raised t a) b ≡ raised t (a + b)
raised-twice t a b = omega arith

pub GoesOn-none : (o : Place) (l : Option (List ℕ)) (t f : ℕ) → GoesOn o o l l t t f f
GoesOn-none o l t f = record {
  passed = refl;
  holds = λ bytes h. ([], rw append-nil h);
  pends = λ bytes h. h;
  told = refl;
  counts = omega arith;
  takes = let z : count o - count o ≡ 0 = omega arith in raised-zero t ∙ ap (raised t) (sym z);
  faults = omega arith;
}

-- what is kept after what was read ahead went to the begun line, or was dropped with it
kept_on : (m k : Place) → HasNoNewline m.begun → HasNoNewline m.ahead → (k ≡ with_ahead m) ⊎ (k ≡ without_line m) → (bytes : List ℕ) → Holds m bytes → Holds k bytes
kept_on m k b a (inl e) bytes h =
    let P : Place → Type 0 = λ p. Holds p bytes in
    subst P (sym e) (h.0, h.1, h.2, h.3 ∙ ap (λ v. h.0 ++ v) (sym (append-nil (m.begun ++ m.ahead))))
kept_on m k b a (inr e) bytes h =
    let P : Place → Type 0 = λ p. Holds p bytes in
    let all : List ℕ = h.0 ++ (m.begun ++ m.ahead) in
    let n : length all ≡ m.skipped + length m.begun + length m.ahead = omega (arith, length-append h.0 (m.begun ++ m.ahead), length-append m.begun m.ahead, h.2) in
    subst P (sym e) (all, none-append h.0 (m.begun ++ m.ahead) h.1 (none-append m.begun m.ahead b a), n, h.3 ∙ sym (append-nil all))

kept_parts : (m k : Place) → (k ≡ with_ahead m) ⊎ (k ≡ without_line m) → (k.passed ≡ m.passed) × (count k ≡ count m) × (k.ahead ≡ [])
kept_parts m k (inl e) = (ap (λ p. p.passed) e, ap count e ∙ omega (arith, length-append m.begun m.ahead), ap (λ p. p.ahead) e)
kept_parts m k (inr e) = (ap (λ p. p.passed) e, ap count e ∙ omega arith, ap (λ p. p.ahead) e)

-- what is kept after a read
read_on : (k n : Place) → k.ahead ≡ [] → n ≡ record k { ahead = n.ahead } → (bytes : List ℕ) → Holds k bytes → Holds n (bytes ++ n.ahead)
read_on k n empty e bytes h =
    let whole : bytes ++ n.ahead ≡ h.0 ++ (k.begun ++ n.ahead) =
    ap (λ b. b ++ n.ahead) (h.3 ∙ ap (λ v. h.0 ++ (k.begun ++ v)) empty ∙ ap (λ v. h.0 ++ v) (append-nil k.begun)) ∙ append_assoc h.0 k.begun n.ahead in
    (h.0, h.1, h.2 ∙ sym (ap (λ p. p.skipped) e), whole ∙ ap (λ v. h.0 ++ (v ++ n.ahead)) (sym (ap (λ p. p.begun) e)))

-- the bytes that a read gave came off the front of those left
abbrev pub Loses : List ℕ → List ℕ → List ℕ → Type 0
Loses given old new = old ≡ given ++ new

pended : (k n : Place) (given : List ℕ) (l l' : Option (List ℕ)) → ((bytes : List ℕ) → Holds k bytes → Holds n (bytes ++ given)) → Told (Loses given) l l' → (bytes : List ℕ) → Pends k l bytes → Pends n l' bytes
pended k n given None l' on t bytes h = absurd h
pended k n given (Some left) None on t bytes h = absurd t
pended k n given (Some left) (Some left') on t bytes h =
    (h.0 ++ given, on h.0 h.1, h.2 ∙ ap (λ v. h.0 ++ v) t ∙ sym (append_assoc h.0 given left'))

told_on : {A : Type 0} (R : A → A → Type 0) (l l' : Option A) → Told R l l' → is_some l' ≡ is_some l
told_on R None None t = refl
told_on R None (Some y) t = absurd t
told_on R (Some x) None t = absurd t
told_on R (Some x) (Some y) t = refl

-- one turn of the loop: what was read ahead is kept, and more is read
pub turned : (o m k n : Place) (lo lm ln : Option (List ℕ)) (to tm tn fo fm fn : ℕ) → GoesOn o m lo lm to tm fo fm → HasNoNewline m.begun → HasNoNewline m.ahead → (k ≡ with_ahead m) ⊎ (k ≡ without_line m) → n ≡ record k { ahead = n.ahead } → Told (Loses n.ahead) lm ln → tn ≡ raised tm (length n.ahead) → fm ≤ fn → GoesOn o n lo ln to tn fo fn
turned o m k n lo lm ln to tm tn fo fm fn h b a keeps e told takes faults =
    let parts = kept_parts m k keeps in
    let more : count n ≡ count m + length n.ahead = ap count e ∙ omega (arith, parts.1, ap length parts.2) in
    let d : (count m - count o) + length n.ahead ≡ count n - count o = omega (arith, h.counts, more) in
    record {
      passed = ap (λ p. p.passed) e ∙ parts.0 ∙ h.passed;
      holds = λ bytes x.
          let y = h.holds bytes x in
          (y.0 ++ n.ahead, subst (λ (v : List ℕ). Holds n v) (append_assoc bytes y.0 n.ahead) (read_on k n parts.2 e (bytes ++ y.0) (kept_on m k b a keeps (bytes ++ y.0) y.1)));
      pends = λ bytes x. pended m n n.ahead lm ln (λ v w. read_on k n parts.2 e v (kept_on m k b a keeps v w)) told bytes (h.pends bytes x);
      told = told_on (Loses n.ahead) lm ln told ∙ h.told;
      counts = omega (arith, h.counts, more);
      takes = takes ∙ ap (λ t. raised t (length n.ahead)) h.takes ∙ raised-twice to (count m - count o) (length n.ahead) ∙ ap (raised to) d;
      faults = omega (arith, h.faults);
    }

-- what is told after a read that failed
pub failed_on : (given : List ℕ) → given ≡ [] → (l l' : Option (List ℕ)) → Told Same l l' → Told (Loses given) l l'
failed_on given e l l' = Told-weaken Same (Loses given) (λ x y s. sym s ∙ ap (λ v. v ++ y) (sym e)) l l'

-- what is told after a read
pub given_on : (given : List ℕ) (l l' : Option (List ℕ)) → Told (Gives given) l l' → Told (Loses given) l l'
given_on given l l' = Told-weaken (Gives given) (Loses given) (λ x y g. g.0) l l'

-- nothing is left after a read that gave nothing
pub at_end : (given : List ℕ) → given ≡ [] → (l l' : Option (List ℕ)) → Told (Gives given) l l' → IsAtEnd l'
at_end given e None None t = tt
at_end given e None (Some y) t = absurd t
at_end given e (Some x) None t = absurd t
at_end given e (Some x) (Some y) t = ap (λ v. v ++ y) (sym e) ∙ sym t.0 ∙ t.1 (ap length e)
