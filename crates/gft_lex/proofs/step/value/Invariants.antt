use Rattle.std.proofs.Common.{◌≡◌, drop}
use Rattle.gft_lex.specs.Lexemes.{value_from}
use Rattle.gft_lex.proofs.step.value.Given as goal

-- what is left goes on as all does
abbrev pub invariant-digits : goal.invariant-digits
invariant-digits l = value_from l.value (drop l.digit-index l.digits) ≡ value_from 0 l.digits
