use Rattle.std.proofs.Common.{◌≡◌, ◌++◌, drop, map}
use Rattle.gft_model.specs.TokenFaults.{loose, text_of}
use Rattle.gft_lex.proofs.letters.letters_of.Given as goal

-- the characters so far
abbrev pub invariant-characters : goal.invariant-characters
invariant-characters l = l.letters.items ≡ l.yielded

-- what was read and what is to come
abbrev pub invariant-bytes : goal.invariant-bytes
invariant-bytes l = l.letters.items ++ map loose (drop l.byte-index l.rest) ≡ text_of l.bytes
