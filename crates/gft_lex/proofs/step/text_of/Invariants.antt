use Rattle.std.proofs.Common.{◌≡◌, drop, ◌++◌, true}
use Rattle.std.specs.Prelude.{string_bytes, encode_utf8_all}
use Rattle.std.specs.Str.{all_scalars}
use Rattle.gft_lex.proofs.step.text_of.Given as goal

-- what was written and what is to come
abbrev pub invariant-letters : goal.invariant-letters
invariant-letters l = record {
  written : string_bytes l.text ++ encode_utf8_all (drop l.letter-index l.letters) ≡ encode_utf8_all l.letters;
  characters : all_scalars (drop l.letter-index l.letters) ≡ true;
}
