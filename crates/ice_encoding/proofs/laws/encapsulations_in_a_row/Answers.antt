use Rattle.ice_encoding.proofs.Encapsulations.{next_found, next_only}
use Rattle.ice_encoding.proofs.laws.encapsulations_in_a_row.Goals as goal

pub returns-clause-found : goal.returns-clause-found
returns-clause-found c = λ t kind. next_found t kind

pub returns-clause-only : goal.returns-clause-only
returns-clause-only c = λ t kind. next_only t kind
