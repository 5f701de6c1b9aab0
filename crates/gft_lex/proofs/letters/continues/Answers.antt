use Rattle.gft_lex.proofs.Characters.{continues_none}
use Rattle.gft_lex.proofs.letters.continues.Goals as goal

pub returns-in-None : goal.returns-in-None
returns-in-None c = continues_none c.args.letter c.in-None.ensures.cases
