use Rattle.once_law.proofs.Deliveries.{one_world}
use Rattle.once_law.proofs.Matching.{matched_world}
use Rattle.once_law.proofs.once.Goals as goal

pub returns-clause-apart : goal.returns-clause-apart
returns-clause-apart c = matched_world

pub returns-clause-within : goal.returns-clause-within
returns-clause-within c = one_world
