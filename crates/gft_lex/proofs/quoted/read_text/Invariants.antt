use Rattle.std.proofs.Common.{◌≡◌, drop, false, []}
use Rattle.std.specs.Prelude.{string_bytes}
use Rattle.gft_lex.specs.Texts.{reading}
use Rattle.gft_lex.proofs.quoted.read_text.Given as goal

-- what is left is read as all is
abbrev pub invariant-letters : goal.invariant-letters
invariant-letters l = reading l.escaping l.i (string_bytes l.text) (drop l.i l.letters) ≡ reading false 0 [] l.letters
