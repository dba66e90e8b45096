use Rattle.value_writing.proofs.Plain.{canonical-is}
use Rattle.value_writing.proofs.laws.written_by_number.Goals as goal

pub returns : goal.returns
returns c = canonical-is
