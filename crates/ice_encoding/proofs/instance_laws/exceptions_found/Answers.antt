use Rattle.ice_encoding.proofs.Exceptions.{exception_found}
use Rattle.ice_encoding.proofs.instance_laws.exceptions_found.Goals as goal

pub returns : goal.returns
returns c = exception_found
