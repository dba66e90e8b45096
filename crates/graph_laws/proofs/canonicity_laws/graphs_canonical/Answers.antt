use Rattle.graph_laws.proofs.Schemas.{canonical_spelled, known_spelled, canonical_read}
use Rattle.graph_laws.proofs.canonicity_laws.graphs_canonical.Goals as goal

pub returns-clause-all : goal.returns-clause-all
returns-clause-all c = canonical_spelled

pub returns-clause-known : goal.returns-clause-known
returns-clause-known c = known_spelled

pub returns-clause-only : goal.returns-clause-only
returns-clause-only c = canonical_read
