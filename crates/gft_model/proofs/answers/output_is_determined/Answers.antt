use Rattle.gft_model.proofs.OutputLaws.{output_once}
use Rattle.gft_model.proofs.answers.output_is_determined.Goals as goal

pub returns : goal.returns
returns c = output_once
