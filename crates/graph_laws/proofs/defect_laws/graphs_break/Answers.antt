use Rattle.ice_prims.specs.Rest.{whole}
use Rattle.graph_laws.proofs.Graphs.{graph_input_agrees}
use Rattle.graph_laws.proofs.defect_laws.graphs_break.Goals as goal

pub returns : goal.returns
returns c = λ t reach shape bytes fault rules required optional fits.
    let a = graph_input_agrees t rules reach shape required optional in (a.broken (whole bytes) fault fits, a.breaks (whole bytes) fault)
