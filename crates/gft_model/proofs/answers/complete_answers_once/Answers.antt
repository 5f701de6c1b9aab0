use Rattle.gft_model.proofs.ReplyLaws.{completes_once}
use Rattle.gft_model.proofs.answers.complete_answers_once.Goals as goal
use Rattle.gft_model.specs.States.{language_of}

pub returns : goal.returns
returns c = λ a l cat. completes_once a (language_of a cat l) cat
