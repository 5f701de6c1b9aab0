use Rattle.gft_model.proofs.JudgedGrammars.{grammar_or_flaw}
use Rattle.gft_model.proofs.laws.grammar_or_flaw.Goals as goal

pub returns : goal.returns
returns c = grammar_or_flaw
