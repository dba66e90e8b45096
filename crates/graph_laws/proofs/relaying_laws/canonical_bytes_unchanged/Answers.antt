use Rattle.graph_laws.proofs.Unchanged.{canonical_there, unchanged}
use Rattle.graph_laws.proofs.relaying_laws.canonical_bytes_unchanged.Goals as goal

pub returns-clause-read : goal.returns-clause-read
returns-clause-read c = canonical_there

pub returns-clause-written : goal.returns-clause-written
returns-clause-written c = unchanged
