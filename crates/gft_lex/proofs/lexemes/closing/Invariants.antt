use Rattle.std.proofs.Common.{◌≡◌, drop, false}
use Rattle.gft_lex.specs.Lexemes.{closing_on}
use Rattle.gft_lex.proofs.lexemes.closing.Given as goal

-- what is left goes on as all does
abbrev pub invariant-letters : goal.invariant-letters
invariant-letters l = closing_on l.i l.escaping (drop l.i l.letters) ≡ closing_on 0 false l.letters
