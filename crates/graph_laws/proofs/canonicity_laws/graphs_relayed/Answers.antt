use Rattle.graph_laws.proofs.Schemas.{relayed, known_relayed, relayed_same}
use Rattle.graph_laws.proofs.canonicity_laws.graphs_relayed.Goals as goal

pub returns-clause-spelled : goal.returns-clause-spelled
returns-clause-spelled c t reach shape format bytes g rules fits is can small = relayed t reach shape rules bytes g fits is format can small

pub returns-clause-known : goal.returns-clause-known
returns-clause-known c t shape format bytes g rules fits is small = known_relayed t shape format rules bytes g fits is small

pub returns-clause-same : goal.returns-clause-same
returns-clause-same c t reach again shape format bytes g h rules fits is can held = relayed_same t reach shape rules bytes g fits is again format h can held
