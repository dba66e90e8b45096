use Rattle.graph_laws.proofs.CanonicalExceptions.{exception_read, known_read}
use Rattle.graph_laws.proofs.exception_laws.written_exceptions_apart.Goals as goal

pub returns-clause-all : goal.returns-clause-all
returns-clause-all c = exception_read

pub returns-clause-known : goal.returns-clause-known
returns-clause-known c = known_read
