use Rattle.std.proofs.Common.{◌≡◌, ◌++◌, length, flat_map}
use Rattle.std.specs.Prelude.{string_bytes}
use Rattle.std.specs.Str.Iter.{chars_rest}
use Rattle.gft_tree.specs.Lexemes.{escaped}
use Rattle.gft_tree.proofs.writing.push_quoted.Given as goal

-- what is written and what is to come
abbrev pub invariant-characters : goal.invariant-characters
invariant-characters l = string_bytes l.out ++ flat_map escaped (chars_rest l.rest) ≡ string_bytes l.initial.out ++ flat_map escaped l.word

abbrev pub decreases-characters : goal.decreases-characters
decreases-characters l = length (chars_rest l.rest)
