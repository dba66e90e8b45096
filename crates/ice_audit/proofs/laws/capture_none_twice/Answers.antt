use Rattle.ice_audit.proofs.Bytes.{none_twice_lem}
use Rattle.ice_audit.proofs.laws.capture_none_twice.Goals as goal

pub returns : goal.returns
returns c = none_twice_lem
