-- What a call answers, from what its parts did.
use Rattle.std.proofs.Common.{◌≡◌, ◌≢◌, ℕ, ◌+◌, ◌<◌, ◌≤◌, List, [], ◌∷◌, ◌++◌, length, take, drop, refl, sym, ap, ◌∙◌, subst, arith, append_assoc, append-nil, length-append, length-drop, Option, None, Some, Result, Ok, Err}
use Rattle.std.proofs.lemmas.List.{length-take-le, nil_from_length}
use Rattle.std.specs.declared.vec.Vec.{Vec}
use Rattle.std.specs.declared.alloc.Global.{Global}
use Rattle.gft_io.specs.declared.lines.LineErr.{LineErr}
use Rattle.gft_io.specs.declared.lines.LineErr.TheVariants.{ReadFault, InputLimit, LineTooLong, NoMemory}
use Rattle.gft_io.specs.Lines.{input_limit, HasNoNewline, first_line, after_line, line_size, lines_of}
use Rattle.gft_io.specs.Place.{Place, count, kept, Pends, Passes, Answers, KeepsLittle}
use Rattle.gft_io.specs.Steps.{IsLineEnd, past, EndsLine, EndsInput, IsAtEnd}
use Rattle.gft_io.proofs.LineLemmas.{first_line-ended, after_line-ended, line_size-ended, lines_of-ended, first_line-unended, after_line-unended, line_size-unended, lines_of-unended}
use Rattle.gft_io.proofs.PlaceLemmas.{none-append, none-nil}

some_list : (xs : List ℕ) → 0 < length xs → xs ≢ []
some_list xs h e = absurd (omega (arith, ap length e))

-- what is read ahead and what is left are still to be cut where no line is begun
only_ahead : (n : Place) (left : List ℕ) → n.skipped ≡ 0 → n.begun ≡ [] → Pends n (Some left) (n.ahead ++ left)
only_ahead n left s b = (n.ahead, ([], none-nil, sym s, ap (λ v. v ++ n.ahead) (sym b)), refl)

-- a line that ends with a newline is passed
passed_line : (o n : Place) (bytes line rest left : List ℕ) → HasNoNewline line → bytes ≡ line ++ 10 ∷ rest → n.passed ≡ o.passed + (length line + 1) → n.passed ≤ input_limit → Pends n (Some left) rest → (Passes o n (Some left) bytes) × (first_line bytes ≡ line)
passed_line o n bytes line rest left h whole passed within p =
    let size : line_size bytes ≡ length line + 1 = ap line_size whole ∙ line_size-ended line rest h in
    let first : first_line bytes ≡ line = ap first_line whole ∙ first_line-ended line rest h in
    let after : after_line bytes ≡ rest = ap after_line whole ∙ after_line-ended line rest h in
    let n_bytes : 0 < length bytes = omega (arith, ap length whole, length-append line (10 ∷ rest)) in (
      record {
        begins = some_list bytes n_bytes;
        within = omega arith;
        passed = omega arith;
        rest = subst (λ (v : List ℕ). Pends n (Some left) v) (sym after) p;
        lines = ap lines_of whole ∙ lines_of-ended line rest h ∙ ap (λ l. l ∷ lines_of rest) (sym first) ∙ ap (λ r. first_line bytes ∷ lines_of r) (sym after);
      },
      first,
    )

-- a line that the end of input ends is passed
passed_last : (o n : Place) (bytes left : List ℕ) → HasNoNewline bytes → 0 < length bytes → n.passed ≡ o.passed + length bytes → n.passed ≤ input_limit → Pends n (Some left) [] → (Passes o n (Some left) bytes) × (first_line bytes ≡ bytes)
passed_last o n bytes left h some passed within p =
    let size : line_size bytes ≡ length bytes = line_size-unended bytes h in
    let first : first_line bytes ≡ bytes = first_line-unended bytes h in
    let after : after_line bytes ≡ [] = after_line-unended bytes h in (
      record {
        begins = some_list bytes some;
        within = omega arith;
        passed = omega arith;
        rest = subst (λ (v : List ℕ). Pends n (Some left) v) (sym after) p;
        lines = lines_of-unended bytes h (some_list bytes some) ∙ ap (λ l. l ∷ []) (sym first) ∙ ap (λ r. first_line bytes ∷ lines_of r) (sym after);
      },
      first,
    )

regroup : (d b f k l : List ℕ) → (d ++ (b ++ (f ++ 10 ∷ k))) ++ l ≡ (d ++ (b ++ f)) ++ 10 ∷ (k ++ l)
regroup d b f k l = simp append_assoc

-- what was skipped, begun and read ahead up to the newline is one line
newline_cut : (o m n : Place) (left bytes : List ℕ) (end : ℕ) → m.passed ≡ o.passed → count m ≤ input_limit → HasNoNewline m.begun → IsLineEnd m.ahead end → n ≡ past m (end + 1) → Pends m (Some left) bytes
    → (line : List ℕ) × (length line ≡ m.skipped + length m.begun + end) × (Passes o n (Some left) bytes) × (first_line bytes ≡ line) × (m.skipped ≡ 0 → line ≡ m.begun ++ take end m.ahead)
newline_cut o m n left bytes end same room b e new p =
    let front : List ℕ = take end m.ahead in
    let back : List ℕ = drop (end + 1) m.ahead in
    let h = p.1 in
    let line : List ℕ = h.0 ++ (m.begun ++ front) in
    let whole : bytes ≡ line ++ 10 ∷ (back ++ left) =
    p.2 ∙ ap (λ t. t ++ left) h.3 ∙ ap (λ v. (h.0 ++ (m.begun ++ v)) ++ left) e.parts ∙ regroup h.0 m.begun front back left in
    let n_front : length front ≡ end = length-take-le end m.ahead (omega (arith, e.bound)) in
    let n_line : length line ≡ m.skipped + length m.begun + end = omega (arith, h.2, n_front, length-append h.0 (m.begun ++ front), length-append m.begun front) in
    let n_passed : n.passed ≡ m.passed + m.skipped + length m.begun + (end + 1) = ap (λ q. q.passed) new in
    let rest : Pends n (Some left) (back ++ left) =
    subst (λ (v : List ℕ). Pends n (Some left) (v ++ left)) (ap (λ q. q.ahead) new) (only_ahead n left (ap (λ q. q.skipped) new) (ap (λ q. q.begun) new)) in
    let t = passed_line o n bytes line (back ++ left) left (none-append h.0 (m.begun ++ front) h.1 (none-append m.begun front b e.unended)) whole (omega arith) (omega (arith, e.bound)) rest in
    (line, n_line, t.0, t.1, λ z. ap (λ d. d ++ (m.begun ++ front)) (nil_from_length h.0 (h.2 ∙ z)))

-- the answers where a newline was read
pub ended : (o m n : Place) (l : Option (List ℕ)) (bytes : List ℕ) (end : ℕ) (r : Result (Option (Vec ℕ Global)) LineErr) → m.passed ≡ o.passed → count m ≤ input_limit → HasNoNewline m.begun → IsLineEnd m.ahead end → EndsLine m n end r → Pends m l bytes → Answers o n l bytes r
ended o m n None bytes end r same room b e ends p = absurd p
ended o m n (Some left) bytes end (Ok (Some given)) same room b e ends p =
    let cut = newline_cut o m n left bytes end same room b e ends.3 p in
    (cut.2, ends.1 ∙ sym (cut.4 ends.0) ∙ sym cut.3, ends.2)
ended o m n (Some left) bytes end (Ok None) same room b e ends p = absurd ends
ended o m n (Some left) bytes end (Err LineTooLong) same room b e ends p =
    let cut = newline_cut o m n left bytes end same room b e ends.1 p in
    (cut.2, omega (arith, ends.0, ap length cut.3, cut.1))
ended o m n (Some left) bytes end (Err InputLimit) same room b e ends p = absurd ends
ended o m n (Some left) bytes end (Err ReadFault) same room b e ends p = absurd ends
ended o m n (Some left) bytes end (Err NoMemory) same room b e ends p = tt

-- what was skipped and begun is all that was still to be cut where the input ends
input_cut : (m : Place) (left bytes : List ℕ) → m.ahead ≡ [] → left ≡ [] → (p : Pends m (Some left) bytes) → bytes ≡ p.1.0 ++ m.begun
input_cut m left bytes a z p =
    p.2 ∙ ap (λ v. p.0 ++ v) z ∙ append-nil p.0 ∙ p.1.3 ∙ ap (λ v. p.1.0 ++ (m.begun ++ v)) a ∙ ap (λ v. p.1.0 ++ v) (append-nil m.begun)

last_cut : (o m n : Place) (left bytes : List ℕ) → m.passed ≡ o.passed → count m ≤ input_limit → HasNoNewline m.begun → m.ahead ≡ [] → left ≡ [] → n ≡ past m 0 → 0 < m.skipped + length m.begun → Pends m (Some left) bytes
    → (length bytes ≡ m.skipped + length m.begun) × (Passes o n (Some left) bytes) × (first_line bytes ≡ bytes) × (m.skipped ≡ 0 → bytes ≡ m.begun)
last_cut o m n left bytes same room b a z new some p =
    let whole : bytes ≡ p.1.0 ++ m.begun = input_cut m left bytes a z p in
    let n_bytes : length bytes ≡ m.skipped + length m.begun = omega (arith, ap length whole, length-append p.1.0 m.begun, p.1.2) in
    let none : HasNoNewline bytes = subst (λ (v : List ℕ). HasNoNewline v) (sym whole) (none-append p.1.0 m.begun p.1.1 b) in
    let n_passed : n.passed ≡ m.passed + m.skipped + length m.begun + 0 = ap (λ q. q.passed) new in
    let n_ahead : n.ahead ≡ [] = ap (λ q. q.ahead) new ∙ a in
    let rest : Pends n (Some left) [] =
    subst (λ (v : List ℕ). Pends n (Some left) v) (ap (λ v. v ++ left) n_ahead ∙ z) (only_ahead n left (ap (λ q. q.skipped) new) (ap (λ q. q.begun) new)) in
    let t = passed_last o n bytes left none (omega arith) (omega arith) (omega arith) rest in
    (n_bytes, t.0, t.1, λ y. whole ∙ ap (λ d. d ++ m.begun) (nil_from_length p.1.0 (p.1.2 ∙ y)))

-- the answers where the input ended
pub finished : (o m n : Place) (l : Option (List ℕ)) (bytes : List ℕ) (r : Result (Option (Vec ℕ Global)) LineErr) → m.passed ≡ o.passed → count m ≤ input_limit → HasNoNewline m.begun → m.ahead ≡ [] → IsAtEnd l → EndsInput m n r → Pends m l bytes → Answers o n l bytes r
finished o m n None bytes r same room b a z ends p = absurd p
finished o m n (Some left) bytes (Ok (Some given)) same room b a z ends p =
    let cut = last_cut o m n left bytes same room b a z ends.4 (omega (arith, ends.2)) p in
    (cut.1, ends.1 ∙ sym (cut.3 ends.0) ∙ sym cut.2, omega (arith, ap length ends.1, ends.3))
finished o m n (Some left) bytes (Ok None) same room b a z ends p =
    let nothing : bytes ≡ [] = input_cut m left bytes a z p ∙ ap (λ v. p.1.0 ++ v) ends.1 ∙ append-nil p.1.0 ∙ nil_from_length p.1.0 (p.1.2 ∙ ends.0) in
    (nothing, subst (λ (q : Place). Pends q (Some left) []) (sym ends.2) (subst (λ (v : List ℕ). Pends m (Some left) v) nothing p))
finished o m n (Some left) bytes (Err LineTooLong) same room b a z ends p =
    let cut = last_cut o m n left bytes same room b a z ends.1 (omega (arith, ends.0)) p in
    (cut.1, omega (arith, ends.0, ap length cut.2, cut.0))
finished o m n (Some left) bytes (Err InputLimit) same room b a z ends p = absurd ends
finished o m n (Some left) bytes (Err ReadFault) same room b a z ends p = absurd ends
finished o m n (Some left) bytes (Err NoMemory) same room b a z ends p = tt

little_past : (m n : Place) (size : ℕ) → n ≡ past m size → KeepsLittle m → KeepsLittle n
little_past m n size new h =
    let a : length (kept n) ≡ length (drop size m.ahead) = ap (λ q. length (kept q)) new in
    omega (arith, a, length-drop size m.ahead, length-append m.begun m.ahead)

little_same : (m n : Place) → n ≡ m → KeepsLittle m → KeepsLittle n
little_same m n new h = let P : Place → Type 0 = KeepsLittle in subst P (sym new) h

-- no more is kept after a line than before it
pub little_ended : (m n : Place) (end : ℕ) (r : Result (Option (Vec ℕ Global)) LineErr) → EndsLine m n end r → KeepsLittle m → KeepsLittle n
little_ended m n end (Ok (Some given)) ends h = little_past m n (end + 1) ends.3 h
little_ended m n end (Ok None) ends h = absurd ends
little_ended m n end (Err LineTooLong) ends h = little_past m n (end + 1) ends.1 h
little_ended m n end (Err InputLimit) ends h = absurd ends
little_ended m n end (Err ReadFault) ends h = absurd ends
little_ended m n end (Err NoMemory) ends h = little_same m n ends h

pub little_finished : (m n : Place) (r : Result (Option (Vec ℕ Global)) LineErr) → EndsInput m n r → KeepsLittle m → KeepsLittle n
little_finished m n (Ok (Some given)) ends h = little_past m n 0 ends.4 h
little_finished m n (Ok None) ends h = little_same m n ends.2 h
little_finished m n (Err LineTooLong) ends h = little_past m n 0 ends.1 h
little_finished m n (Err InputLimit) ends h = absurd ends
little_finished m n (Err ReadFault) ends h = absurd ends
little_finished m n (Err NoMemory) ends h = absurd ends
