use Rattle.gft_model.proofs.SliceLaws.{judgement-once}
use Rattle.gft_model.proofs.sources.spelled_judgement_is_determined.Goals as goal

pub returns : goal.returns
returns c = λ k ts i j d e. judgement-once d e
