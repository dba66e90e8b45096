use Rattle.std.proofs.Common.{arith}
use Rattle.ice_encoding.specs.References.{entry_in}
use Rattle.graph_arena.proofs.Renaming.{slices-put}
use Rattle.graph_arena.proofs.renumbering.resolve_slices.Goals as goal

pub returns : goal.returns
returns c = slices-put (entry_in c.args.table.now) c.args.slices.now c.loop-slice.slices c.loop-slice.slice-index (omega arith) c.loop-slice.invariant
