-- What a loop over the lines of a source needs besides the contract of `next`.
use Rattle.std.proofs.Common.{◌≡◌, ◌≢◌, ℕ, zero, suc, ◌+◌, ◌<◌, Bool, true, false, cond, eqb, List, [], ◌∷◌, ◌++◌, length, take, refl, sym, ap, ◌∙◌, arith, Some}
use Rattle.gft_io.specs.Lines.{HasNoNewline, first_line, after_line, line_size, with_first, lines_of, in_first, ended_lines}
use Rattle.gft_io.specs.Place.{start, Pends}
use Rattle.gft_io.proofs.LineLemmas.{not_newline, others}
use Rattle.gft_io.proofs.PlaceLemmas.{none-nil}

-- at the start all that the source has left is still to be cut
pub Pends-start : (left : List ℕ) → Pends start (Some left) left
Pends-start left = ([], ([], none-nil, refl, refl), refl)

-- a text is its first line, with its newline, and what stands after that
pub length-line_size : (bytes : List ℕ) → length bytes ≡ line_size bytes + length (after_line bytes)
length-line_size [] = refl
length-line_size (b ∷ bytes) =
    elim (eqb b 10) as (λ t. length (b ∷ bytes) ≡ cond t 1 (line_size bytes + 1) + length (cond t bytes (after_line bytes))) [
      | true ↦ omega arith
      | false ↦ omega (arith, length-line_size bytes)
    ]

-- the lines of a text that is not empty are its first line and those of what stands after that
pub lines_of-first : (bytes : List ℕ) → bytes ≢ [] → lines_of bytes ≡ first_line bytes ∷ lines_of (after_line bytes)
lines_of-first [] some = absurd (some refl)
lines_of-first (b ∷ []) some =
    elim (eqb b 10) as (λ t. cond t ([] ∷ []) (with_first b []) ≡ cond t [] (b ∷ []) ∷ lines_of (cond t [] [])) [ true ↦ refl | false ↦ refl ]
lines_of-first (b ∷ c ∷ bytes) some =
    let rest = lines_of-first (c ∷ bytes) (λ e. cc) in
    elim (eqb b 10) as (λ t. cond t ([] ∷ lines_of (c ∷ bytes)) (with_first b (lines_of (c ∷ bytes))) ≡ cond t [] (b ∷ first_line (c ∷ bytes)) ∷ lines_of (cond t (c ∷ bytes) (after_line (c ∷ bytes)))) [
      | true ↦ refl
      | false ↦ ap (with_first b) rest
    ]

ended_newline : (b : ℕ) (bytes : List ℕ) → eqb b 10 ≡ true → ended_lines (b ∷ bytes) ≡ [] ∷ ended_lines bytes
ended_newline b bytes e = ap (λ t. cond t ([] ∷ ended_lines bytes) (in_first b (ended_lines bytes))) e

ended_other : (b : ℕ) (bytes : List ℕ) → eqb b 10 ≡ false → ended_lines (b ∷ bytes) ≡ in_first b (ended_lines bytes)
ended_other b bytes e = ap (λ t. cond t ([] ∷ ended_lines bytes) (in_first b (ended_lines bytes))) e

-- bytes without a newline end no line
pub ended_lines-none : (bytes : List ℕ) → HasNoNewline bytes → ended_lines bytes ≡ []
ended_lines-none [] h = refl
ended_lines-none (b ∷ bytes) h = ended_other b bytes (not_newline b bytes h) ∙ ap (in_first b) (ended_lines-none bytes (others b bytes h))

-- nor do the first bytes of a line
pub ended_lines-short : (n : ℕ) (bytes : List ℕ) → n < line_size bytes → ended_lines (take n bytes) ≡ []
ended_lines-short zero bytes h = refl
ended_lines-short (suc n) [] h = absurd (omega (arith, h))
ended_lines-short (suc n) (b ∷ bytes) h = by_test (eqb b 10) refl (ended_lines-short n bytes)
  where
    by_test : (t : Bool) → eqb b 10 ≡ t → (n < line_size bytes → ended_lines (take n bytes) ≡ []) → ended_lines (b ∷ take n bytes) ≡ []
    by_test true e ih =
        let size : line_size (b ∷ bytes) ≡ 1 = ap (λ t. cond t 1 (line_size bytes + 1)) e in
        absurd (omega (arith, h, size))
    by_test false e ih =
        let size : line_size (b ∷ bytes) ≡ line_size bytes + 1 = ap (λ t. cond t 1 (line_size bytes + 1)) e in
        ended_other b (take n bytes) e ∙ ap (in_first b) (ih (omega (arith, h, size)))

-- a text is its first line, with its newline, and what stands after that; where something does, a newline ended the line
pub record FirstPart (bytes : List ℕ) : Type 0 where
  pub front : List ℕ
  pub whole : bytes ≡ front ++ after_line bytes
  pub size : length front ≡ line_size bytes
  pub ended : after_line bytes ≢ [] → (more : List ℕ) → ended_lines (front ++ more) ≡ first_line bytes ∷ ended_lines more

pub first_part : (bytes : List ℕ) → FirstPart bytes
first_part [] = record { front = []; whole = refl; size = refl; ended = λ some. absurd (some refl) }
first_part (b ∷ bytes) = by_test (eqb b 10) refl (first_part bytes)
  where
    by_test : (t : Bool) → eqb b 10 ≡ t → FirstPart bytes → FirstPart (b ∷ bytes)
    by_test true e p =
        let after : after_line (b ∷ bytes) ≡ bytes = ap (λ t. cond t bytes (after_line bytes)) e in
        let first : first_line (b ∷ bytes) ≡ [] = ap (λ t. cond t [] (b ∷ first_line bytes)) e in
        let size : line_size (b ∷ bytes) ≡ 1 = ap (λ t. cond t 1 (line_size bytes + 1)) e in
        record {
          front = b ∷ [];
          whole = ap (λ r. b ∷ r) (sym after);
          size = sym size;
          ended = λ some more. ended_newline b more e ∙ ap (λ l. l ∷ ended_lines more) (sym first);
        }
    by_test false e p =
        let after : after_line (b ∷ bytes) ≡ after_line bytes = ap (λ t. cond t bytes (after_line bytes)) e in
        let first : first_line (b ∷ bytes) ≡ b ∷ first_line bytes = ap (λ t. cond t [] (b ∷ first_line bytes)) e in
        let size : line_size (b ∷ bytes) ≡ line_size bytes + 1 = ap (λ t. cond t 1 (line_size bytes + 1)) e in
        record {
          front = b ∷ p.front;
          whole = ap (λ r. b ∷ r) (p.whole ∙ ap (λ r. p.front ++ r) (sym after));
          size = omega (arith, p.size, size);
          ended = λ some more.
              ended_other b (p.front ++ more) e ∙ ap (in_first b) (p.ended (λ z. some (after ∙ z)) more) ∙ ap (λ l. l ∷ ended_lines more) (sym first);
        }

-- examples: what stands after the last newline is no ended line
ended_example : ended_lines (97 ∷ 10 ∷ 10 ∷ 98 ∷ []) ≡ (97 ∷ []) ∷ [] ∷ []
ended_example = refl

lines_example : lines_of (97 ∷ 10 ∷ 10 ∷ 98 ∷ []) ≡ (97 ∷ []) ∷ [] ∷ (98 ∷ []) ∷ []
lines_example = refl
