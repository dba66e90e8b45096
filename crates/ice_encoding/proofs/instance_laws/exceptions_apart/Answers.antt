use Rattle.ice_encoding.proofs.Exceptions.{exception_apart}
use Rattle.ice_encoding.proofs.instance_laws.exceptions_apart.Goals as goal

pub returns : goal.returns
returns c = exception_apart
