use Rattle.std.proofs.Common.{arith}
use Rattle.ice_encoding.specs.References.{entry_in}
use Rattle.graph_arena.proofs.Renaming.{names-put}
use Rattle.graph_arena.proofs.resolving.resolve_names.Goals as goal

pub returns : goal.returns
returns c = names-put (entry_in c.args.table.now) c.args.names.now c.loop-name.names c.loop-name.name-index (omega arith) c.loop-name.invariant
