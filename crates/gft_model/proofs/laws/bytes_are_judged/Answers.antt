use Rattle.gft_model.proofs.JudgedGrammars.{bytes_judged}
use Rattle.gft_model.proofs.laws.bytes_are_judged.Goals as goal

pub returns : goal.returns
returns c = bytes_judged
