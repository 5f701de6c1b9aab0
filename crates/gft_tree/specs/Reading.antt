-- The reader as a plain function, character by character. It serves the proof alone.
use Rattle.std.specs.Prelude.{◌≡◌, ℕ, ◌+◌, ◌-◌, ◌*◌, ◌^◌, Bool, true, false, ◌&&◌, ◌||◌, ◌==◌, nat_lt, List, [], ◌∷◌, ◌++◌, length, encode_utf8_all, if◌then◌else◌, Option, None, Some, Result, Ok, Err}
use Rattle.std.specs.Char.{is_whitespace, is_ascii_digit}
use Rattle.gft_core.specs.Names.{begins_name, continues_name, spells_name}
use Rattle.gft_core.specs.Words.{is_word}
use Rattle.gft_core.specs.declared.tree.Tree.{Tree}
use Rattle.gft_core.specs.declared.tree.Tree.TheVariants as tree
use Rattle.gft_tree.specs.declared.error.TreeErr.{TreeErr}
use Rattle.gft_tree.specs.declared.error.TreeErr.TheVariants.{Syntax, TooDeep, BadLiteral, NoMemory}
use Rattle.gft_tree.specs.declared.level.Level.{Level}
use Rattle.gft_tree.specs.declared.level.Level.TheVariants.{Empty, Call}
use Rattle.gft_tree.specs.declared.level.Gap.{Gap}
use Rattle.gft_tree.specs.declared.level.Gap.TheVariants.{Begun, Whole}
use Rattle.gft_tree.specs.declared.reader.Here.{Here}
use Rattle.gft_tree.specs.declared.reader.Here.TheVariants.{Between, Asked, InWord, InNumber, InQuotes, InEscape}
use Rattle.gft_tree.specs.declared.reader.Reader.{Reader}
use Rattle.gft_tree.specs.Faults.{bytes}

-- a level with one more atom
abbrev pub with_atom : Level → Tree → Gap
with_atom Empty t = Whole t
with_atom (Call f ts) t = Begun (Call f (ts ++ t ∷ []))

-- a level with one more name
abbrev pub with_name : Level → List ℕ → Gap
with_name Empty f = Begun (Call f [])
with_name (Call g ts) f = Begun (Call g (ts ++ tree.App f [] ∷ []))

-- the tree that stands at a level, if there is one
abbrev pub tree_of : Gap → Option Tree
tree_of (Begun Empty) = None
tree_of (Begun (Call f ts)) = Some (tree.App f ts)
tree_of (Whole t) = Some t

abbrev pub reader_at : List Level → Here → Reader
reader_at outer here = record { outer = outer; here = here }

-- at a closing parenthesis
abbrev pub closed : List Level → Option Tree → ℕ → Result Reader TreeErr
closed outer None at = Err (Syntax at)
closed [] (Some t) at = Err (Syntax at)
closed (level ∷ outer) (Some t) at = Ok (reader_at outer (Between (with_atom level t)))

-- at an opening parenthesis
abbrev pub opened : List Level → Level → ℕ → Result Reader TreeErr
opened outer level at =
    if nat_lt (length outer) 200 then Ok (reader_at (level ∷ outer) (Between (Begun Empty))) else Err (TooDeep at)

-- between two tokens, where an atom may come
abbrev pub step_begun : List Level → Level → ℕ → ℕ → Result Reader TreeErr
step_begun outer level at c =
    if is_whitespace c then Ok (reader_at outer (Between (Begun level)))
    else (if c == 40 then opened outer level at
    else (if c == 41 then closed outer (tree_of (Begun level)) at
    else (if c == 34 then Ok (reader_at outer (InQuotes level at []))
    else (if c == 63 then Ok (reader_at outer (Asked level))
    else (if is_ascii_digit c then Ok (reader_at outer (InNumber level false at (Some (c - 48))))
    else (if begins_name c then Ok (reader_at outer (InWord level at (c ∷ [])))
    else Err (Syntax at)))))))

-- between two tokens, where no atom may come
abbrev pub step_whole : List Level → Tree → ℕ → ℕ → Result Reader TreeErr
step_whole outer t at c =
    if is_whitespace c then Ok (reader_at outer (Between (Whole t)))
    else (if c == 41 then closed outer (Some t) at
    else Err (Syntax at))

abbrev pub step_between : List Level → Gap → ℕ → ℕ → Result Reader TreeErr
step_between outer (Begun level) at c = step_begun outer level at c
step_between outer (Whole t) at c = step_whole outer t at c

-- behind a `?`
abbrev pub step_asked : List Level → Level → ℕ → ℕ → Result Reader TreeErr
step_asked outer level at c =
    if is_whitespace c then Ok (reader_at outer (Asked level))
    else (if is_ascii_digit c then Ok (reader_at outer (InNumber level true at (Some (c - 48))))
    else Err (Syntax at))

-- a word that ends
abbrev pub word_ended : Level → ℕ → List ℕ → Result Gap TreeErr
word_ended level start w = if spells_name w then Ok (with_name level (encode_utf8_all w)) else Err (Syntax start)

-- a number with one more digit, as long as it is canonical and below 2 ^ 128
abbrev pub with_digit : Option ℕ → ℕ → Option ℕ
with_digit None d = None
with_digit (Some n) d = if (nat_lt 0 n && nat_lt (n * 10 + d) (2 ^ 128)) then Some (n * 10 + d) else None

-- a number that ends
abbrev pub number_ended : Level → Bool → ℕ → Option ℕ → Result Gap TreeErr
number_ended level hole start None = Err (BadLiteral start)
number_ended level false start (Some n) = Ok (with_atom level (tree.Int n))
number_ended level true start (Some n) =
    if (nat_lt 0 n && nat_lt n (2 ^ 32)) then Ok (with_atom level (tree.Hole n)) else Err (BadLiteral start)

-- a string that ends
abbrev pub string_ended : Level → ℕ → List ℕ → Result Gap TreeErr
string_ended level start w =
    if is_word (encode_utf8_all w) then Ok (with_atom level (tree.Str (encode_utf8_all w))) else Err (BadLiteral start)

-- on with what ended
abbrev pub on_ended : Result Gap TreeErr → (Gap → Result Reader TreeErr) → Result Reader TreeErr
on_ended (Ok gap) next = next gap
on_ended (Err e) next = Err e

abbrev pub step_word : List Level → Level → ℕ → List ℕ → ℕ → ℕ → Result Reader TreeErr
step_word outer level start w at c =
    if continues_name c then Ok (reader_at outer (InWord level start (w ++ c ∷ [])))
    else on_ended (word_ended level start w) (λ gap. step_between outer gap at c)

abbrev pub step_number : List Level → Level → Bool → ℕ → Option ℕ → ℕ → ℕ → Result Reader TreeErr
step_number outer level hole start value at c =
    if is_ascii_digit c then Ok (reader_at outer (InNumber level hole start (with_digit value (c - 48))))
    else on_ended (number_ended level hole start value) (λ gap. step_between outer gap at c)

abbrev pub step_quotes : List Level → Level → ℕ → List ℕ → ℕ → ℕ → Result Reader TreeErr
step_quotes outer level start w at c =
    if c == 34 then on_ended (string_ended level start w) (λ gap. Ok (reader_at outer (Between gap)))
    else (if c == 92 then Ok (reader_at outer (InEscape level start w))
    else (if c == 10 then Err (Syntax at)
    else Ok (reader_at outer (InQuotes level start (w ++ c ∷ [])))))

abbrev pub step_escape : List Level → Level → ℕ → List ℕ → ℕ → ℕ → Result Reader TreeErr
step_escape outer level start w at c =
    if (c == 34 || c == 92) then Ok (reader_at outer (InQuotes level start (w ++ c ∷ []))) else Err (Syntax at)

-- one character, at that place
abbrev pub step_at : List Level → Here → ℕ → ℕ → Result Reader TreeErr
step_at outer (Between gap) at c = step_between outer gap at c
step_at outer (Asked level) at c = step_asked outer level at c
step_at outer (InWord level start w) at c = step_word outer level start w at c
step_at outer (InNumber level hole start value) at c = step_number outer level hole start value at c
step_at outer (InQuotes level start w) at c = step_quotes outer level start w at c
step_at outer (InEscape level start w) at c = step_escape outer level start w at c

abbrev pub step : Reader → ℕ → ℕ → Result Reader TreeErr
step reader at c = step_at reader.outer reader.here at c

-- the end of the text between two tokens
abbrev pub finished_gap : List Level → Option Tree → ℕ → Result Tree TreeErr
finished_gap outer None at = Err (Syntax at)
finished_gap [] (Some t) at = Ok t
finished_gap (level ∷ outer) (Some t) at = Err (Syntax at)

abbrev pub on_gap : Result Gap TreeErr → (Gap → Result Tree TreeErr) → Result Tree TreeErr
on_gap (Ok gap) next = next gap
on_gap (Err e) next = Err e

-- the end of the text
abbrev pub finished_at : List Level → Here → ℕ → Result Tree TreeErr
finished_at outer (Between gap) at = finished_gap outer (tree_of gap) at
finished_at outer (Asked level) at = Err (Syntax at)
finished_at outer (InWord level start w) at = on_gap (word_ended level start w) (λ gap. finished_gap outer (tree_of gap) at)
finished_at outer (InNumber level hole start value) at =
    on_gap (number_ended level hole start value) (λ gap. finished_gap outer (tree_of gap) at)
finished_at outer (InQuotes level start w) at = Err (Syntax at)
finished_at outer (InEscape level start w) at = Err (Syntax at)

abbrev pub finished : Reader → ℕ → Result Tree TreeErr
finished reader at = finished_at reader.outer reader.here at

abbrev pub on_step : Result Reader TreeErr → (Reader → Result Tree TreeErr) → Result Tree TreeErr
on_step (Ok reader) next = next reader
on_step (Err e) next = Err e

-- the characters that are left of a text of so many bytes
abbrev pub read_on : ℕ → Reader → List ℕ → Result Tree TreeErr
read_on total reader [] = finished reader total
read_on total reader (c ∷ cs) = on_step (step reader (total - bytes (c ∷ cs)) c) (λ next. read_on total next cs)

abbrev pub start : Reader
start = reader_at [] (Between (Begun Empty))

-- what a function returned is what reading gives, unless memory ran out
abbrev pub Gives : {X : Type 0} → Result X TreeErr → Result X TreeErr → Type 0
Gives (Ok x) read = read ≡ Ok x
Gives (Err NoMemory) read = Unit {0}
Gives (Err (Syntax at)) read = read ≡ Err (Syntax at)
Gives (Err (TooDeep at)) read = read ≡ Err (TooDeep at)
Gives (Err (BadLiteral at)) read = read ≡ Err (BadLiteral at)
