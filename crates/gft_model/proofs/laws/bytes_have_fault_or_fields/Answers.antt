use Rattle.gft_model.proofs.ReadingLaws.{fault_or_fields}
use Rattle.gft_model.proofs.laws.bytes_have_fault_or_fields.Goals as goal

pub returns : goal.returns
returns c = fault_or_fields
