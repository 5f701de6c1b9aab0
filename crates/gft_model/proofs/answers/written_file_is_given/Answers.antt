use Rattle.gft_model.proofs.AnswerLaws.{written_given}
use Rattle.gft_model.proofs.answers.written_file_is_given.Goals as goal

pub returns : goal.returns
returns c = written_given
