use Rattle.graph_laws.proofs.Canonicity.{same_bytes}
use Rattle.graph_laws.proofs.Schemas.{relayed_same}
use Rattle.graph_laws.proofs.canonicity_laws.relaying_again.Goals as goal

pub returns : goal.returns
returns c t reach again shape format other bytes g h rules fits is can held = same_bytes t shape other h g (relayed_same t reach shape rules bytes g fits is again format h can held)
