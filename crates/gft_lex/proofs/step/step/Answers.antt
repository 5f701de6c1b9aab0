use Rattle.std.proofs.Common.{◌∙◌, sym, ap}
use Rattle.gft_core.specs.Names.{spells_name}
use Rattle.gft_lex.proofs.Seen.{sight_word}
use Rattle.gft_lex.proofs.step.step.Goals as goal

pub word-requires-clause-name : goal.word-requires-clause-name
word-requires-clause-name c = ap spells_name c.split_at-in-Word.ensures.front
    ∙ sight_word c.args.letters.now c.in-Word.n (sym c.in-Word.ensures.value)
