use Rattle.std.proofs.Common.{ap, sym, subst}
use Rattle.ice_prims.specs.Rest.{Rest, IsBytes}
use Rattle.ice_encoding.specs.Flags.{all_slices}
use Rattle.ice_encoding.specs.Graph.{Graph}
use Rattle.ice_encoding.specs.TypedGraph.{OfType}
use Rattle.value_parts.specs.Shapes.{shape_seen}
use Rattle.instance_reading.specs.Stacked.{view_graph}
use Rattle.class_slices.proofs.Sound.{steps-typed}
use Rattle.class_slices.proofs.reading.take_graph.Goals as goal

pub of-requires : goal.of-requires
of-requires c = (steps-typed c.args.schema.now all_slices (shape_seen c.args.fields) c.fork-ahead.result c.in_ok-inside.inside c.open_encaps.new.cursor c.read_content.new.cursor
    (view_graph c.in_ok-content.content) c.rules.ensures (subst IsBytes (sym (ap (λ (r : Rest). r.bytes) c.fork-ahead.ensures)) c.left_are_bytes.ensures) c.in_ok-inside.ensures c.in_ok-content.ensures c.in-Ok.ensures).1

pub returns-in-Ok-clause-typed : goal.returns-in-Ok-clause-typed
returns-in-Ok-clause-typed c = subst (λ (g : Graph). OfType c.args.schema.now (shape_seen c.args.fields) g) (sym c.of.ensures)
    (steps-typed c.args.schema.now all_slices (shape_seen c.args.fields) c.fork-ahead.result c.in_ok-inside.inside c.open_encaps.new.cursor c.read_content.new.cursor
    (view_graph c.in_ok-content.content) c.rules.ensures (subst IsBytes (sym (ap (λ (r : Rest). r.bytes) c.fork-ahead.ensures)) c.left_are_bytes.ensures) c.in_ok-inside.ensures c.in_ok-content.ensures c.in-Ok.ensures).0
