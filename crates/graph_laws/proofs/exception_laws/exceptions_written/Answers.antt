use Rattle.graph_laws.proofs.CanonicalExceptions.{exception_written, exception_known}
use Rattle.graph_laws.proofs.exception_laws.exceptions_written.Goals as goal

pub returns-clause-all : goal.returns-clause-all
returns-clause-all c = exception_written

pub returns-clause-known : goal.returns-clause-known
returns-clause-known c = exception_known
