use Rattle.gft_lex.proofs.Characters.{begins_none}
use Rattle.gft_lex.proofs.letters.begins.Goals as goal

pub returns-in-None : goal.returns-in-None
returns-in-None c = begins_none c.args.letter c.in-None.ensures.cases
