-- Identifiers and words of characters.
use Rattle.std.specs.Prelude.{ℕ, List, encode_utf8_all, Option, None, Some, if◌then◌else◌}
use Rattle.gft_core.specs.Names.{spells_name}
use Rattle.gft_core.specs.Words.{is_word}

-- the identifier that some characters are, in bytes
abbrev pub name_of : List ℕ → Option (List ℕ)
name_of cs = if spells_name cs then Some (encode_utf8_all cs) else None

-- the word that some characters are, in bytes
abbrev pub word_of : List ℕ → Option (List ℕ)
word_of cs = if is_word (encode_utf8_all cs) then Some (encode_utf8_all cs) else None
