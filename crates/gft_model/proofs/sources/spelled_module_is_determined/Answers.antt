use Rattle.gft_model.proofs.ModuleLaws.{module-once}
use Rattle.gft_model.proofs.sources.spelled_module_is_determined.Goals as goal

pub returns : goal.returns
returns c = λ ts m n d e. module-once d e
