use Rattle.gft_model.proofs.CompiledLaws.{concrete_once}
use Rattle.gft_model.proofs.answers.compiled_is_determined.Goals as goal

pub returns : goal.returns
returns c = concrete_once
