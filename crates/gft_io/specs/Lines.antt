-- The lines of a text.
use Rattle.std.specs.Prelude.{◌≢◌, ◌==◌, ℕ, ◌+◌, ◌≤◌, List, [], ◌∷◌, length, All, if◌then◌else◌}

-- the most bytes of a line, without its newline
abbrev pub line_limit : ℕ
line_limit = 65536

-- the most bytes of a stream of lines
abbrev pub input_limit : ℕ
input_limit = 67108864

-- no byte is a newline
abbrev pub HasNoNewline : List ℕ → Type 0
HasNoNewline bytes = All (λ byte. byte ≢ 10) bytes

-- a line without its newline, and not too long
abbrev pub IsLine : List ℕ → Type 0
IsLine line = HasNoNewline line × (length line ≤ line_limit)

-- the first line: what stands before the first newline, or all where there is none
abbrev pub first_line : List ℕ → List ℕ
first_line [] = []
first_line (byte ∷ bytes) = if byte == 10 then [] else byte ∷ first_line bytes

-- what stands after the first newline, or nothing where there is none
abbrev pub after_line : List ℕ → List ℕ
after_line [] = []
after_line (byte ∷ bytes) = if byte == 10 then bytes else after_line bytes

-- how many bytes the first line has, with its newline where it has one
abbrev pub line_size : List ℕ → ℕ
line_size [] = 0
line_size (byte ∷ bytes) = if byte == 10 then 1 else line_size bytes + 1

-- lines whose first begins with one byte more
abbrev pub with_first : ℕ → List (List ℕ) → List (List ℕ)
with_first byte [] = (byte ∷ []) ∷ []
with_first byte (line ∷ lines) = (byte ∷ line) ∷ lines

-- the lines of a text: each newline ends one, and what stands after the last newline is one where it is not empty
abbrev pub lines_of : List ℕ → List (List ℕ)
lines_of [] = []
lines_of (byte ∷ bytes) = if byte == 10 then [] ∷ lines_of bytes else with_first byte (lines_of bytes)

-- lines whose first, where there is one, begins with one byte more
abbrev pub in_first : ℕ → List (List ℕ) → List (List ℕ)
in_first byte [] = []
in_first byte (line ∷ lines) = (byte ∷ line) ∷ lines

-- the lines of a text that a newline ends
abbrev pub ended_lines : List ℕ → List (List ℕ)
ended_lines [] = []
ended_lines (byte ∷ bytes) = if byte == 10 then [] ∷ ended_lines bytes else in_first byte (ended_lines bytes)
