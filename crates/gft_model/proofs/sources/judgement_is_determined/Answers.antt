use Rattle.gft_model.proofs.JudgementLaws.{judgement-once}
use Rattle.gft_model.proofs.sources.judgement_is_determined.Goals as goal

pub returns : goal.returns
returns c = judgement-once
