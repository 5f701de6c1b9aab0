use Rattle.gft_model.proofs.LoadingLaws.{one_list_of_files}
use Rattle.gft_model.proofs.answers.loaded_files_are_determined.Goals as goal

pub returns : goal.returns
returns c = one_list_of_files
