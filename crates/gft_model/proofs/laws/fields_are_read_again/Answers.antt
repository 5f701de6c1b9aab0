use Rattle.gft_model.proofs.ReadingLaws.{fields_again}
use Rattle.gft_model.proofs.laws.fields_are_read_again.Goals as goal

pub returns : goal.returns
returns c = fields_again
