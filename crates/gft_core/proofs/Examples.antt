-- The definitions at small texts, computed.
use Rattle.std.proofs.Common.{◌≡◌, [], ◌∷◌, refl}
use Rattle.std.specs.Prelude.{codes, encode_utf8_all}
use Rattle.std.specs.Str.{chars}
use lib.Utf8
use Rattle.gft_core.specs.Words.{words_of, joined, single_spaced}

-- the two words of `  good   morning `
two_words : words_of (codes "  good   morning ") ≡ codes "good" ∷ codes "morning" ∷ []
unfolding chars lib.Utf8.encode
two_words = refl

-- its white space made single
ends_dropped : single_spaced (codes "  good   morning ") ≡ codes "good morning"
unfolding chars lib.Utf8.encode
ends_dropped = refl

-- 9 is a tab, 10 a newline, 12288 the wide space that takes three bytes; the last two are white space at the end
mixed : single_spaced (encode_utf8_all (97 ∷ 9 ∷ 10 ∷ 98 ∷ 12288 ∷ 99 ∷ 12288 ∷ 10 ∷ [])) ≡ codes "a b c"
unfolding chars lib.Utf8.encode
mixed = refl

-- white space alone
nothing_left : single_spaced (codes "   ") ≡ []
unfolding chars
nothing_left = refl

-- joined words have single spaces
one_space : joined (codes "good" ∷ codes "morning" ∷ []) ≡ codes "good morning"
one_space = refl
