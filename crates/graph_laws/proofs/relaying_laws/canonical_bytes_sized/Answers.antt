use Rattle.graph_laws.proofs.SizedWritten.{graph_sized}
use Rattle.graph_laws.proofs.relaying_laws.canonical_bytes_sized.Goals as goal

pub returns : goal.returns
returns c = graph_sized
