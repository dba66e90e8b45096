use Rattle.ice_audit.proofs.OneVerdict.{one_verdict}
use Rattle.ice_audit.proofs.laws.verdicts_apart.Goals as goal

pub returns : goal.returns
returns c = one_verdict
