use Rattle.ice_relay.proofs.Relayed.{spelled_read, encodes_same}
use Rattle.value_parts.specs.Shapes.{shape_seen}
use Rattle.ice_relay.proofs.telling.relayed.Goals as goal

pub read-requires : goal.read-requires
read-requires c = spelled_read c.args.schema.now (shape_seen c.args.fields) c.args.input.now c.requires.0 c.requires.1

pub returns : goal.returns
returns c graph spells = encodes_same c.args.schema.now (shape_seen c.args.fields) c.args.input.now graph c.in_ok-graph.graph c.encoded.result spells c.in_ok-graph.ensures.held c.encoded.ensures
