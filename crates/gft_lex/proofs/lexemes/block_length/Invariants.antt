use Rattle.std.proofs.Common.{◌≡◌, drop, false}
use Rattle.gft_lex.specs.Lexemes.{block_on}
use Rattle.gft_lex.proofs.lexemes.block_length.Given as goal

-- what is left goes on as all does
abbrev pub invariant-letters : goal.invariant-letters
invariant-letters l = block_on l.i l.behind_minus (drop l.i l.letters) ≡ block_on 0 false l.letters
