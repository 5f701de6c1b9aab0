use Rattle.gft_model.specs.Import.{BreaksImport}
use Rattle.gft_model.proofs.RefusalOrder.{first-once}
use Rattle.gft_model.proofs.refusals.first_refusal_is_unique.Goals as goal

pub returns : goal.returns
returns c files names = first-once (BreaksImport files names)
