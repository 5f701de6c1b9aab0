use Rattle.gft_model.proofs.AnswerLaws.{answer_once}
use Rattle.gft_model.proofs.answers.session_answers_once.Goals as goal

pub returns : goal.returns
returns c = answer_once
