use Rattle.gft_model.proofs.CommandLaws.{line_once}
use Rattle.gft_model.proofs.answers.line_is_read_once.Goals as goal

pub returns : goal.returns
returns c = line_once
