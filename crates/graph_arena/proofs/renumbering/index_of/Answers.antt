use Rattle.std.proofs.Common.{arith, ◌-◌}
use Rattle.graph_arena.proofs.Taking.{below-at}
use Rattle.graph_arena.proofs.renumbering.index_of.Goals as goal

pub index_mut-requires : goal.index_mut-requires
index_mut-requires c =
    omega (arith, below-at c.args.count c.args.names.now (c.loop-at.at - 1) c.requires.in_range (omega (arith, c.loop-at.invariant.few, c.loop-at-test.true)), c.loop-at.invariant.size, c.loop-at.index.ok.0)
