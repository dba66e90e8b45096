use Rattle.ice_encoding.proofs.Exceptions.{exception_only}
use Rattle.ice_encoding.proofs.instance_laws.exceptions_only.Goals as goal

pub returns : goal.returns
returns c = exception_only
