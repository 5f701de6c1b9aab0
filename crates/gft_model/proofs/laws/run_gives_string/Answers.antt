use Rattle.gft_model.proofs.RunStringLaws.{run_string}
use Rattle.gft_model.proofs.laws.run_gives_string.Goals as goal

pub returns : goal.returns
returns c = λ a c' cat words r fs x e. run_string fs x e
