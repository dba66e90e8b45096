use Rattle.ice_relay.proofs.Drilled.{typed, writable, within, drills}
use Rattle.ice_relay.proofs.drilling.drill_under.Goals as goal

pub tell-requires-clause-typed : goal.tell-requires-clause-typed
tell-requires-clause-typed c = typed c.args.start c.args.count c.args.schema.now c.requires.schema c.in_ok-root.field-0 c.in_ok-root.ensures c.in_ok-graph.graph c.in_ok-graph.ensures c.requires.some

pub tell-requires-clause-writable : goal.tell-requires-clause-writable
tell-requires-clause-writable c = writable c.args.start c.args.count c.args.schema.now c.requires.schema c.in_ok-root.field-0 c.in_ok-root.ensures c.in_ok-graph.graph c.in_ok-graph.ensures c.requires.some c.requires.few

pub tell-requires-clause-few : goal.tell-requires-clause-few
tell-requires-clause-few c = within c.args.start c.args.count c.args.schema.now c.requires.schema c.in_ok-root.field-0 c.in_ok-root.ensures c.in_ok-graph.graph c.in_ok-graph.ensures c.requires.few

pub returns : goal.returns
returns c = drills c.args.start c.args.count c.args.schema.now c.requires.schema c.in_ok-root.field-0 c.in_ok-root.ensures c.in_ok-graph.graph c.in_ok-graph.ensures c.tell.result c.tell.ensures
