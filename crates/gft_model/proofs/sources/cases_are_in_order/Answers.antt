use Rattle.gft_model.proofs.CaseLaws.{cases-in-order}
use Rattle.gft_model.proofs.sources.cases_are_in_order.Goals as goal

pub returns : goal.returns
returns c = cases-in-order
