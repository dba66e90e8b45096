use Rattle.std.proofs.Common.{length}
use Rattle.graph_arena.proofs.Taking.{below-at}
use Rattle.value_checks.proofs.first.first_of.Goals as goal

pub is_fine-requires : goal.is_fine-requires
is_fine-requires c = below-at (length c.args.graph.now.instances) c.args.places.now c.loop-place.place-index c.requires c.loop-place-test.true
