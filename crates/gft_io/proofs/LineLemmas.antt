-- The first line of a text, where its newline is known and where it has none.
use Rattle.std.proofs.Common.{◌≡◌, ◌≢◌, ◌⊎◌, ℕ, ◌+◌, ◌<◌, true, false, cond, eqb, List, [], ◌∷◌, ◌++◌, length, refl, sym, ap, ◌∙◌, subst, arith, inl, inr}
use Rattle.std.proofs.lemmas.List.Elements.{All-head, All-tail}
use Rattle.std.proofs.lemmas.Bool.Decides.{eqb_tells}
use Rattle.gft_io.specs.Lines.{HasNoNewline, first_line, after_line, line_size, with_first, lines_of}

pub not_newline : (byte : ℕ) (bytes : List ℕ) → HasNoNewline (byte ∷ bytes) → eqb byte 10 ≡ false
not_newline byte bytes h =
    let no : byte ≢ 10 = All-head (λ b. b ≢ 10) byte bytes h in
    elim (eqb_tells byte 10) [ inl e ↦ absurd (no e.1) | inr e ↦ e.0 ]

pub others : (byte : ℕ) (bytes : List ℕ) → HasNoNewline (byte ∷ bytes) → HasNoNewline bytes
others byte bytes h = All-tail (λ b. b ≢ 10) byte bytes h

pub first_line-ended : (line rest : List ℕ) → HasNoNewline line → first_line (line ++ 10 ∷ rest) ≡ line
first_line-ended [] rest h = refl
first_line-ended (b ∷ line) rest h =
    ap (λ t. cond t [] (b ∷ first_line (line ++ 10 ∷ rest))) (not_newline b line h) ∙ ap (λ l. b ∷ l) (first_line-ended line rest (others b line h))

pub after_line-ended : (line rest : List ℕ) → HasNoNewline line → after_line (line ++ 10 ∷ rest) ≡ rest
after_line-ended [] rest h = refl
after_line-ended (b ∷ line) rest h =
    ap (λ t. cond t (line ++ 10 ∷ rest) (after_line (line ++ 10 ∷ rest))) (not_newline b line h) ∙ after_line-ended line rest (others b line h)

pub line_size-ended : (line rest : List ℕ) → HasNoNewline line → line_size (line ++ 10 ∷ rest) ≡ length line + 1
line_size-ended [] rest h = omega arith
line_size-ended (b ∷ line) rest h =
    let e : line_size ((b ∷ line) ++ 10 ∷ rest) ≡ line_size (line ++ 10 ∷ rest) + 1 = ap (λ t. cond t 1 (line_size (line ++ 10 ∷ rest) + 1)) (not_newline b line h) in
    omega (arith, e, line_size-ended line rest (others b line h))

pub lines_of-ended : (line rest : List ℕ) → HasNoNewline line → lines_of (line ++ 10 ∷ rest) ≡ line ∷ lines_of rest
lines_of-ended [] rest h = refl
lines_of-ended (b ∷ line) rest h =
    ap (λ t. cond t ([] ∷ lines_of (line ++ 10 ∷ rest)) (with_first b (lines_of (line ++ 10 ∷ rest)))) (not_newline b line h) ∙ ap (with_first b) (lines_of-ended line rest (others b line h))

pub first_line-unended : (line : List ℕ) → HasNoNewline line → first_line line ≡ line
first_line-unended [] h = refl
first_line-unended (b ∷ line) h =
    ap (λ t. cond t [] (b ∷ first_line line)) (not_newline b line h) ∙ ap (λ l. b ∷ l) (first_line-unended line (others b line h))

pub after_line-unended : (line : List ℕ) → HasNoNewline line → after_line line ≡ []
after_line-unended [] h = refl
after_line-unended (b ∷ line) h =
    ap (λ t. cond t line (after_line line)) (not_newline b line h) ∙ after_line-unended line (others b line h)

pub line_size-unended : (line : List ℕ) → HasNoNewline line → line_size line ≡ length line
line_size-unended [] h = refl
line_size-unended (b ∷ line) h =
    let e : line_size (b ∷ line) ≡ line_size line + 1 = ap (λ t. cond t 1 (line_size line + 1)) (not_newline b line h) in
    omega (arith, e, line_size-unended line (others b line h))

one_more : (b : ℕ) (line : List ℕ) → HasNoNewline line → (lines_of line ≡ line ∷ []) ⊎ (line ≡ []) → with_first b (lines_of line) ≡ (b ∷ line) ∷ []
one_more b line h (inl e) = ap (with_first b) e
one_more b line h (inr e) = let P : List ℕ → Type 0 = λ l. with_first b (lines_of l) ≡ (b ∷ l) ∷ [] in subst P (sym e) refl

one_line : (line : List ℕ) → HasNoNewline line → (lines_of line ≡ line ∷ []) ⊎ (line ≡ [])
one_line [] h = inr refl
one_line (b ∷ line) h =
    inl (ap (λ t. cond t ([] ∷ lines_of line) (with_first b (lines_of line))) (not_newline b line h) ∙ one_more b line (others b line h) (one_line line (others b line h)))

pub lines_of-unended : (line : List ℕ) → HasNoNewline line → line ≢ [] → lines_of line ≡ line ∷ []
lines_of-unended line h some = elim (one_line line h) [ inl e ↦ e | inr e ↦ absurd (some e) ]

-- a line goes on past bytes that have no newline, where more follow
pub line_size-late : (front rest : List ℕ) → HasNoNewline front → 0 < length rest → length front < line_size (front ++ rest)
line_size-late [] [] h more = absurd (omega arith)
line_size-late [] (b ∷ rest) h more = elim (eqb b 10) as (λ t. 0 < cond t 1 (line_size rest + 1)) [ true ↦ omega arith | false ↦ omega arith ]
line_size-late (b ∷ front) rest h more =
    let e : line_size ((b ∷ front) ++ rest) ≡ line_size (front ++ rest) + 1 = ap (λ t. cond t 1 (line_size (front ++ rest) + 1)) (not_newline b front h) in
    omega (arith, e, line_size-late front rest (others b front h) more)
