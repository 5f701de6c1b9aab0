use Rattle.gft_model.proofs.LineReadings.{line_read}
use Rattle.gft_model.proofs.answers.line_is_read.Goals as goal

pub returns : goal.returns
returns c = line_read
