-- Where a reader of lines stands in its stream, and what it answers there.
use Rattle.std.specs.Prelude.{◌≡◌, ◌≢◌, ℕ, ◌+◌, ◌<◌, ◌≤◌, List, [], ◌∷◌, ◌++◌, length, Option, None, Some, Result, Ok, Err, ⊤}
use Rattle.std.specs.declared.vec.Vec.{Vec}
use Rattle.std.specs.declared.alloc.Global.{Global}
use Rattle.gft_io.specs.declared.lines.LineErr.{LineErr}
use Rattle.gft_io.specs.declared.lines.LineErr.TheVariants.{ReadFault, InputLimit, LineTooLong, NoMemory}
use Rattle.gft_io.specs.Lines.{line_limit, input_limit, HasNoNewline, first_line, after_line, line_size, lines_of}

-- the bytes of the lines that are done with, those dropped of a begun line that is too long, the begun line,
-- and what was read ahead
pub record Place : Type 0 where
  pub passed : ℕ
  pub skipped : ℕ
  pub begun : List ℕ
  pub ahead : List ℕ

-- at the start of a stream
abbrev pub start : Place
start = record { passed = 0; skipped = 0; begun = []; ahead = [] }

-- the bytes that were taken and are kept
abbrev pub kept : Place → List ℕ
kept place = place.begun ++ place.ahead

-- no more is kept than a line and one read
abbrev pub KeepsLittle : Place → Type 0
KeepsLittle place = length (kept place) ≤ line_limit + 8192

-- how many bytes were taken since the start
abbrev pub count : Place → ℕ
count place = place.passed + place.skipped + length place.begun + length place.ahead

-- these bytes were taken and are not passed: dropped ones, all of one line, and then those that are kept
abbrev pub Holds : Place → List ℕ → Type 0
Holds place bytes = (dropped : List ℕ) × HasNoNewline dropped × (length dropped ≡ place.skipped) × (bytes ≡ dropped ++ kept place)

-- these bytes are still to be cut into lines: those taken and not passed, and then those that the source has left
abbrev pub Pends : Place → Option (List ℕ) → List ℕ → Type 0
Pends place None bytes = ⊥
Pends place (Some left) bytes = (taken : List ℕ) × Holds place taken × (bytes ≡ taken ++ left)

-- of these bytes the first line, which ends within the limit of the stream, is passed, and the others are still to be cut
pub record Passes (old new : Place) (left : Option (List ℕ)) (bytes : List ℕ) : Type 0 where
  pub begins : bytes ≢ []
  pub within : old.passed + line_size bytes ≤ input_limit
  pub passed : new.passed ≡ old.passed + line_size bytes
  pub rest : Pends new left (after_line bytes)
  pub lines : lines_of bytes ≡ first_line bytes ∷ lines_of (after_line bytes)

-- What a call answers where these bytes are still to be cut.
abbrev pub Answers : Place → Place → Option (List ℕ) → List ℕ → Result (Option (Vec ℕ Global)) LineErr → Type 0
Answers old new left bytes (Ok (Some line)) =
    Passes old new left bytes × (line.items ≡ first_line bytes) × (length line.items ≤ line_limit)
Answers old new left bytes (Ok None) = (bytes ≡ []) × Pends new left []
Answers old new left bytes (Err LineTooLong) = Passes old new left bytes × (line_limit < length (first_line bytes))
Answers old new left bytes (Err InputLimit) = (input_limit < old.passed + line_size bytes) × Pends new left bytes
Answers old new left bytes (Err ReadFault) = Pends new left bytes
Answers old new left bytes (Err NoMemory) = ⊤

-- a line or the refusal of one passes bytes, and no other answer does
abbrev pub Advances : Place → Place → Result (Option (Vec ℕ Global)) LineErr → Type 0
Advances old new (Ok (Some line)) = old.passed < new.passed
Advances old new (Ok None) = new.passed ≡ old.passed
Advances old new (Err LineTooLong) = old.passed < new.passed
Advances old new (Err InputLimit) = new.passed ≡ old.passed
Advances old new (Err ReadFault) = new.passed ≡ old.passed
Advances old new (Err NoMemory) = new.passed ≡ old.passed

-- nothing that was taken is lost, and no whole line is kept
pub record KeepsAll (old new : Place) : Type 0 where
  pub passed : new.passed ≡ old.passed
  pub holds : (bytes : List ℕ) → Holds old bytes → (more : List ℕ) × Holds new (bytes ++ more)
  pub unended : HasNoNewline (kept new)
