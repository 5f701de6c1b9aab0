use Rattle.gft_model.proofs.OneFlaw.{one_invalid, invalid_has_no_fault}
use Rattle.gft_model.proofs.laws.flaw_is_determined.Goals as goal

pub returns : goal.returns
returns c = λ bytes flaw at x. (λ other there y. one_invalid x y, λ rule there f. invalid_has_no_fault x f)
