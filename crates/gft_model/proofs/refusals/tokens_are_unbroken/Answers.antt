use Rattle.gft_model.proofs.TokenLaws.{tokens_apart}
use Rattle.gft_model.proofs.Unbroken.{has_tokens}
use Rattle.gft_model.proofs.refusals.tokens_are_unbroken.Goals as goal

pub returns : goal.returns
returns c file bytes = (λ t r b. tokens_apart t.1 b, λ unbroken. has_tokens unbroken)
