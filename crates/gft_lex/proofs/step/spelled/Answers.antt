use Rattle.gft_lex.proofs.Wholes.{whole_scalars}
use Rattle.gft_lex.proofs.step.spelled.Goals as goal

pub text_of-requires : goal.text_of-requires
text_of-requires c = whole_scalars c.args.place c.args.letters.now c.in-Ok.ensures
