use Rattle.ice_values.proofs.Plain.{plain-is}
use Rattle.ice_values.proofs.laws.read_by_number.Goals as goal

pub returns : goal.returns
returns c = plain-is
