use Rattle.gft_model.proofs.SliceLaws.{slice-once}
use Rattle.gft_model.proofs.sources.spelled_slice_is_determined.Goals as goal

pub returns : goal.returns
returns c = λ before ts k l i j d e. slice-once d e
