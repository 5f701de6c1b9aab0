-- The reserved words and the symbols by their spellings. They serve the proof alone.
use Rattle.std.specs.Prelude.{ℕ, ◌+◌, List, [], ◌∷◌, Option, map, encode_utf8_all}
use Rattle.std.specs.Option.{option_map_or}
use Rattle.gft_syntax.specs.declared.token.Reserved.{Reserved}
use Rattle.gft_syntax.specs.declared.token.Symbol.{Symbol as Sign}
use Rattle.gft_syntax.specs.declared.token.TokenForm.{TokenForm}
use Rattle.gft_syntax.specs.declared.token.TokenForm.TheVariants as T
use Rattle.gft_model.specs.Source.{spelled_in, reserved_words, symbols}

-- spellings with their places from a number on
abbrev pub rows_from : ℕ → List (List ℕ × Reserved) → List (ℕ × List ℕ)
rows_from n [] = []
rows_from n (w ∷ ws) = (n, w.0) ∷ rows_from (n + 1) ws

-- a row for each reserved word: its place, and its spelling
unfoldable pub word_rows : List (ℕ × List ℕ)
word_rows = rows_from 0 reserved_words

-- the reserved word that characters are
unfoldable pub reserved_in : List ℕ → Option Reserved
reserved_in s = spelled_in reserved_words s

-- the symbol that characters are
unfoldable pub symbol_in : List ℕ → Option Sign
symbol_in s = spelled_in symbols s

-- the reserved words in order
unfoldable pub words_in_order : List Reserved
words_in_order = map (λ (w : List ℕ × Reserved). w.1) reserved_words

-- the form of a name: reserved, or an identifier
abbrev pub word_form : List ℕ → TokenForm
word_form s = option_map_or T.Reserved (spelled_in reserved_words s) (T.Identifier (encode_utf8_all s))
