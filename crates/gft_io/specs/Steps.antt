-- What the parts of a call of a reader of lines do. They serve its proof.
use Rattle.std.specs.Prelude.{◌≡◌, ℕ, ◌+◌, ◌-◌, ◌<◌, ◌≤◌, List, [], ◌∷◌, ◌++◌, length, take, drop, Option, None, Some, Result, Ok, Err, ⊤, is_some}
use Rattle.std.specs.declared.vec.Vec.{Vec}
use Rattle.std.specs.declared.alloc.Global.{Global}
use Rattle.gft_io.specs.declared.lines.LineErr.{LineErr}
use Rattle.gft_io.specs.declared.lines.LineErr.TheVariants.{ReadFault, InputLimit, LineTooLong, NoMemory}
use Rattle.gft_io.specs.Outside.{raised}
use Rattle.gft_io.specs.Lines.{line_limit, input_limit, HasNoNewline, line_size}
use Rattle.gft_io.specs.Place.{Place, count, Holds, Pends}

-- the first newline of the bytes stands here
pub record IsLineEnd (bytes : List ℕ) (end : ℕ) : Type 0 where
  pub parts : bytes ≡ take end bytes ++ 10 ∷ drop (end + 1) bytes
  pub unended : HasNoNewline (take end bytes)
  pub bound : end < length bytes

-- what was read ahead goes to the begun line
abbrev pub with_ahead : Place → Place
with_ahead place = record { passed = place.passed; skipped = place.skipped; begun = place.begun ++ place.ahead; ahead = [] }

-- what was read ahead is dropped with the begun line
abbrev pub without_line : Place → Place
without_line place = record {
  passed = place.passed;
  skipped = place.skipped + length place.begun + length place.ahead;
  begun = [];
  ahead = [];
}

-- the begun line has its end at this place of what was read ahead, and size of the bytes there are passed with it
abbrev pub past : Place → ℕ → Place
past place size = record {
  passed = place.passed + place.skipped + length place.begun + size;
  skipped = 0;
  begun = [];
  ahead = drop size place.ahead;
}

-- the line that ends before this newline is given, or skipped where it is too long
abbrev pub EndsLine : Place → Place → ℕ → Result (Option (Vec ℕ Global)) LineErr → Type 0
EndsLine old new end (Ok (Some line)) =
    (old.skipped ≡ 0) × (line.items ≡ old.begun ++ take end old.ahead) × (length line.items ≤ line_limit)
    × (new ≡ past old (end + 1))
EndsLine old new end (Ok None) = ⊥
EndsLine old new end (Err LineTooLong) = (line_limit < old.skipped + length old.begun + end) × (new ≡ past old (end + 1))
EndsLine old new end (Err InputLimit) = ⊥
EndsLine old new end (Err ReadFault) = ⊥
EndsLine old new end (Err NoMemory) = new ≡ old

-- the begun line at the end of input is given, or skipped where it is too long, or there is none
abbrev pub EndsInput : Place → Place → Result (Option (Vec ℕ Global)) LineErr → Type 0
EndsInput old new (Ok (Some line)) =
    (old.skipped ≡ 0) × (line.items ≡ old.begun) × (0 < length old.begun) × (length old.begun ≤ line_limit)
    × (new ≡ past old 0)
EndsInput old new (Ok None) = (old.skipped ≡ 0) × (old.begun ≡ []) × (new ≡ old)
EndsInput old new (Err LineTooLong) = (line_limit < old.skipped + length old.begun) × (new ≡ past old 0)
EndsInput old new (Err InputLimit) = ⊥
EndsInput old new (Err ReadFault) = ⊥
EndsInput old new (Err NoMemory) = ⊥

-- reads went on: nothing is lost, and what was taken was counted
pub record GoesOn (old new : Place) (left left' : Option (List ℕ)) (took took' : ℕ) (failed failed' : ℕ) : Type 0 where
  pub passed : new.passed ≡ old.passed
  pub holds : (bytes : List ℕ) → Holds old bytes → (more : List ℕ) × Holds new (bytes ++ more)
  pub pends : (bytes : List ℕ) → Pends old left bytes → Pends new left' bytes
  pub told : is_some left' ≡ is_some left
  pub counts : count old ≤ count new
  pub takes : took' ≡ raised took (count new - count old)
  pub faults : failed ≤ failed'

-- a told source has nothing left
abbrev pub IsAtEnd : Option (List ℕ) → Type 0
IsAtEnd None = ⊤
IsAtEnd (Some left) = left ≡ []

-- more was taken than a stream may have, and the line that is begun there has its end past that
abbrev pub IsLate : Place → Type 0
IsLate place = (bytes more : List ℕ) → Holds place bytes → input_limit < place.passed + line_size (bytes ++ more)
