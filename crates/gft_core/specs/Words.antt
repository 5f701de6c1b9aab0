-- The words of a text, and the text of words.
use Rattle.std.specs.Prelude.{◌≡◌, ◌==◌, ℕ, Bool, true, false, not, ◌&&◌, List, [], ◌∷◌, ◌++◌, length, map, encode_utf8_all, if◌then◌else◌}
use Rattle.std.specs.Char.{is_whitespace, is_not_whitespace}
use Rattle.std.specs.List.{flat_map, list_all}
use Rattle.std.specs.Str.{chars, IsUtf8, skip_leading_whitespace, drop_trailing_whitespace}

-- a text that is one word: not empty, and without white space
abbrev pub is_word : List ℕ → Bool
is_word text = not (length text == 0) && list_all is_not_whitespace (chars text)

abbrev pub IsWord : List ℕ → Type 0
IsWord text = is_word text ≡ true

-- the characters before the first that passes the test
abbrev pub first_run : (ℕ → Bool) → List ℕ → List ℕ
first_run parts [] = []
first_run parts (c ∷ cs) = if parts c then [] else c ∷ first_run parts cs

-- the maximal runs of characters that fail the test, in order
abbrev mutual
  -- where no run is begun
  pub runs : (ℕ → Bool) → List ℕ → List (List ℕ)
  runs parts [] = []
  runs parts (c ∷ cs) = if parts c then runs parts cs else (c ∷ first_run parts cs) ∷ later_runs parts cs

  -- where a run is begun: the runs after it
  pub later_runs : (ℕ → Bool) → List ℕ → List (List ℕ)
  later_runs parts [] = []
  later_runs parts (c ∷ cs) = if parts c then runs parts cs else later_runs parts cs

-- the words of a text: its maximal runs of characters that are not white space
abbrev pub words_of : List ℕ → List (List ℕ)
words_of text = map encode_utf8_all (runs is_whitespace (chars text))

-- the words with one space between
abbrev pub joined : List (List ℕ) → List ℕ
joined [] = []
joined (w ∷ ws) = w ++ flat_map (λ v. 32 ∷ v) ws

-- bytes that a word can have: a word in UTF-8
abbrev pub IsWordInUtf8 : List ℕ → Type 0
IsWordInUtf8 text = IsUtf8 text × IsWord text

-- whether white space comes first
abbrev pub starts_white : List ℕ → Bool
starts_white [] = false
starts_white (c ∷ cs) = is_whitespace c

-- each maximal run of white space is one space, in the place of its last character
abbrev pub singled : List ℕ → List ℕ
singled [] = []
singled (c ∷ cs) = if is_whitespace c then (if starts_white cs then singled cs else 32 ∷ singled cs) else c ∷ singled cs

-- a text with its white space made single: what stands at its ends dropped, and each other maximal run one space
abbrev pub single_spaced : List ℕ → List ℕ
single_spaced text = encode_utf8_all (singled (drop_trailing_whitespace (skip_leading_whitespace (chars text))))
