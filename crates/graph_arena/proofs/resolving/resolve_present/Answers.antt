use Rattle.std.proofs.Common.{arith}
use Rattle.ice_encoding.specs.References.{entry_in}
use Rattle.graph_arena.proofs.Renaming.{present-put}
use Rattle.graph_arena.proofs.resolving.resolve_present.Goals as goal

pub returns : goal.returns
returns c = present-put (entry_in c.args.table.now) c.args.optional.now c.loop-member.optional c.loop-member.member-index (omega arith) c.loop-member.invariant
