use Rattle.gft_model.proofs.ReadingLaws.{one_fault}
use Rattle.gft_model.proofs.laws.fault_is_determined.Goals as goal

pub returns : goal.returns
returns c = λ bytes first second i j d e. one_fault d e
