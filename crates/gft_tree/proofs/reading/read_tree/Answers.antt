use Rattle.gft_tree.proofs.AnswerLemmas.{answers_ok, answers_err}
use Rattle.gft_tree.proofs.reading.read_tree.Goals as goal

pub returns-clause-ok : goal.returns-clause-ok
returns-clause-ok c = answers_ok c.args.text.now c.utf8.text c.read.result c.read.ensures

pub returns-clause-err : goal.returns-clause-err
returns-clause-err c = answers_err c.args.text.now c.utf8.text c.read.result c.read.ensures
