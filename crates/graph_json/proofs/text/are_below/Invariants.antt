use Rattle.std.proofs.Common.{take}
use Rattle.graph_arena.specs.Arena.{AreBelow}
use Rattle.graph_json.proofs.text.are_below.Given as goal

abbrev pub invariant-loop-name : goal.invariant-loop-name
invariant-loop-name l = AreBelow l.count (take l.name-index l.names)
