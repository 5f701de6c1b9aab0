-- Characters are below those numbers that are none.
use Rattle.std.proofs.Common.{◌≡◌, ℕ, ◌<◌, ◌≤◌, true, false, arith}
use Rattle.std.proofs.lemmas.Bool.{false_from_ne_true}
use Rattle.std.proofs.lemmas.Bool.Decides.{nat_tests}
use Rattle.gft_model.specs.TokenFaults.{no_character}
use Rattle.gft_lex.specs.Lexemes.{is_character}

pub small : (c : ℕ) → is_character c ≡ true → c < no_character
small c h = grind (arith, nat_tests)

pub large : (c : ℕ) → no_character ≤ c → is_character c ≡ false
large c h = false_from_ne_true _ (λ e. let l = small c e in absurd (omega (arith, l, h)))
