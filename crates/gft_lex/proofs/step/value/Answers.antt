use Rattle.std.proofs.Common.{◌∙◌, sym}
use Rattle.gft_lex.proofs.Lengths.{value_stops}
use Rattle.gft_lex.proofs.step.value.Goals as goal

pub returns-in_err-checked_mul : goal.returns-in_err-checked_mul
returns-in_err-checked_mul c =
    c.from_residual.ensures
    ∙ sym (value_stops c.digits.value c.args.digits.now c.digits.digit-index
    c.digits-test.true c.in_err-checked_mul.ensures) ∙ c.digits.invariant
