use Rattle.gft_model.proofs.InRange.{fields_in_range}
use Rattle.gft_model.proofs.laws.fields_are_in_range.Goals as goal

pub returns : goal.returns
returns c = fields_in_range
