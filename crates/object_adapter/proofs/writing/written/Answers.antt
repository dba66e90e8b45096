use Rattle.ice_encoding.specs.CanonicalGraph.{sliced, canonical_graph}
use Rattle.value_parts.specs.Shapes.{told_apart}
use Rattle.object_adapter.proofs.writing.written.Goals as goal

pub of-requires : goal.of-requires
of-requires c = (
  canonical_graph c.args.schema.now (told_apart (record { required = c.as_slice.result.now; optional = c.as_slice-2.result.now })) sliced c.args.values,
  c.in-Ok.ensures.1,
  c.in-Ok.ensures.2,
)
