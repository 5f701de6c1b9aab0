use Rattle.std.proofs.Common.{sym, ◌∙◌}
use Rattle.gft_model.proofs.NoFlaw.{reads_once}
use Rattle.gft_model.proofs.laws.file_is_of_one_grammar.Goals as goal

pub returns : goal.returns
returns c = λ bytes g h x y.
    reads_once g.abs h.abs g.concretes h.concretes x.grammar.fits y.grammar.fits (x.bytes_are ∙ sym y.bytes_are)
