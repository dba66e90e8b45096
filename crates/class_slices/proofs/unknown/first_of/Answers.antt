use Rattle.std.proofs.Common.{length}
use Rattle.graph_arena.proofs.Taking.{below-at}
use Rattle.class_slices.proofs.unknown.first_of.Goals as goal

pub instance-requires : goal.instance-requires
instance-requires c = below-at (length c.args.graph.now.instances) c.args.places.now c.loop-place.place-index c.requires c.loop-place-test.true
