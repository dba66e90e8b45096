use Rattle.std.specs.Prelude.{◌++◌}
use Rattle.graph_json.specs.Canonical.{instance_noted}
use Rattle.ice_relay.proofs.Pages.{IsLeft}
use Rattle.ice_relay.proofs.Instances.{text_from}
use Rattle.ice_relay.proofs.line.tell_instances.Given as goal

abbrev pub invariant-loop-at : goal.invariant-loop-at
invariant-loop-at g l =
    let from = text_from (instance_noted l.schema) l.graph.instances in
    IsLeft (l.initial.page.items ++ from 0) (from l.at) (g.K.Sink.taken l.initial.sink) (g.K.Sink.taken l.sink) (g.K.Sink.failures l.initial.sink) (g.K.Sink.failures l.sink) l.page
