-- The words of the program's call.
use Rattle.std.specs.Prelude.{ℕ, ◌+◌, ◌-◌, ◌*◌, ◌==◌, ◌&&◌, not, nat_lt, if◌then◌else◌, Bool, false, List, [], ◌∷◌, ◌++◌, length, take, drop, Option, Some, None, codes}
use Rattle.std.specs.List.{position_or_len, before_first, after_first}
use Rattle.std.specs.Str.{bytes_eq}

-- the word `--`, behind which all words are files
abbrev pub is_marker : List ℕ → Bool
is_marker [] = false
is_marker (b ∷ []) = false
is_marker (b ∷ c ∷ []) = (b == 45) && (c == 45)
is_marker (b ∷ c ∷ d ∷ bytes) = false

-- a word that begins with a hyphen and is longer
abbrev pub is_option : List ℕ → Bool
is_option [] = false
is_option (b ∷ []) = false
is_option (b ∷ c ∷ bytes) = b == 45

-- the words before the first that passes, those from it on, and those behind it
abbrev pub before : (List ℕ → Bool) → List (List ℕ) → List (List ℕ)
before passes words = take (position_or_len passes words) words

abbrev pub from : (List ℕ → Bool) → List (List ℕ) → List (List ℕ)
from passes words = drop (position_or_len passes words) words

abbrev pub behind : (List ℕ → Bool) → List (List ℕ) → List (List ℕ)
behind passes words = drop (position_or_len passes words + 1) words

-- what the words ask for: a session over these files; a portable file of these; the workload; or nothing that is known
pub data Call : Type 0 where
  of_session : List (List ℕ) → Call
  of_make : List ℕ → List (List ℕ) → Call
  of_workload : ℕ → Call
  of_nothing : Call

-- the value of an option as the next word, which is no option, and the words behind it
abbrev pub next_word : List (List ℕ) → Option (List ℕ × List (List ℕ))
next_word [] = None
next_word (word ∷ words) = if is_option word then None else Some (word, words)

-- the value of the option of that name, as `NAME VALUE` or `NAME=VALUE`, and the words behind it
abbrev pub value_of : List ℕ → List ℕ → List (List ℕ) → Option (List ℕ × List (List ℕ))
value_of name option words =
    if position_or_len (λ b. b == 61) option == length option
    then if bytes_eq option name then next_word words else None
    else if bytes_eq (before_first (λ b. b == 61) option) name
    then Some (after_first (λ b. b == 61) option, words)
    else None

-- a portable file of the files round the option and its value, where there are some and no other option
abbrev pub call_of_make : List (List ℕ) → List (List ℕ) → List ℕ × List (List ℕ) → Call
call_of_make first last (out, words) =
    if (position_or_len is_option words == length words) && not (length (first ++ (words ++ last)) == 0)
    then of_make out (first ++ (words ++ last))
    else of_nothing

abbrev pub is_digit : ℕ → Bool
is_digit byte = nat_lt 47 byte && nat_lt byte 58

-- a number, and the digits that go on with it, where it stays at most 10,000
abbrev pub more_digits : ℕ → List ℕ → Option ℕ
more_digits n [] = Some n
more_digits n (byte ∷ bytes) =
    if is_digit byte
    then if nat_lt 10000 (n * 10 + (byte - 48)) then None else more_digits (n * 10 + (byte - 48)) bytes
    else None

-- the number that is written so in digits, without a zero before it, from 1 to 10,000
abbrev pub count_of : List ℕ → Option ℕ
count_of [] = None
count_of (byte ∷ bytes) = if is_digit byte && not (byte == 48) then more_digits (byte - 48) bytes else None

abbrev pub call_with_count : Option ℕ → Call
call_with_count None = of_nothing
call_with_count (Some count) = of_workload count

-- the workload of so many sentences, where there is no other word
abbrev pub call_of_workload : List (List ℕ) → List (List ℕ) → List ℕ × List (List ℕ) → Call
call_of_workload first last (count, words) =
    if length (first ++ (words ++ last)) == 0 then call_with_count (count_of count) else of_nothing

-- what the first option asks for, by the values that it gives the two options there are
abbrev pub call_by_option : List (List ℕ) → List (List ℕ) → Option (List ℕ × List (List ℕ)) → Option (List ℕ × List (List ℕ)) → Call
call_by_option first last (Some make) workload = call_of_make first last make
call_by_option first last None (Some workload) = call_of_workload first last workload
call_by_option first last None None = of_nothing

-- what the words ask for: the first files, the words from the first option on, and the files behind the `--`
abbrev pub call_between : List (List ℕ) → List (List ℕ) → List (List ℕ) → Call
call_between first [] last = of_session (first ++ last)
call_between first (option ∷ words) last =
    call_by_option first last (value_of (codes "--make") option words) (value_of (codes "--workload") option words)

-- the words behind the first, which is the program's name
abbrev pub arguments : List (List ℕ) → List (List ℕ)
arguments [] = []
arguments (program ∷ words) = words

-- what the program's words ask for
abbrev pub call_of : List (List ℕ) → Call
call_of words =
    let plain = before is_marker (arguments words) in
    call_between (before is_option plain) (from is_option plain) (behind is_marker (arguments words))

-- the line of a wrong call
abbrev pub usage_line : List ℕ
usage_line = codes "usage: gfs [FILE ..] | gfs --make OUT FILE .. | gfs --workload N" ++ 10 ∷ []
