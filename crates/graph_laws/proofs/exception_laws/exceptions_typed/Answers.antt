use Rattle.graph_laws.proofs.SoundExceptions.{user_exception_sound}
use Rattle.graph_laws.proofs.exception_laws.exceptions_typed.Goals as goal

pub returns : goal.returns
returns c t reach bytes x rules fits h = user_exception_sound t reach rules bytes x fits h
