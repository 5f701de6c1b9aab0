use Rattle.gft_model.proofs.ReplyLaws.{texts_once}
use Rattle.gft_model.proofs.answers.texts_are_determined.Goals as goal
use Rattle.gft_model.specs.States.{language_of}

pub returns : goal.returns
returns c = λ a l cat. texts_once a (language_of a cat l)
