use Rattle.std.proofs.Common.{arith}
use Rattle.ice_encoding.specs.declared.limits.TheConstants.{GREATEST, LARGEST}
use Rattle.graph_laws.proofs.Sound.{numbered_read}
use Rattle.graph_laws.proofs.Wider.{graph_wider}
use Rattle.graph_laws.proofs.typing_laws.graphs_typed.Goals as goal

pub returns-clause-read : goal.returns-clause-read
returns-clause-read c t reach shape bytes g rules fits h = numbered_read t reach shape rules bytes g fits h

pub returns-clause-written : goal.returns-clause-written
returns-clause-written c t shape g h = graph_wider t LARGEST GREATEST (omega arith) shape g h
