use Rattle.std.proofs.Common.{◌≡◌, ◌++◌, drop}
use Rattle.graph_arena.proofs.names.push_table.Given as goal

abbrev pub invariant-loop-name : goal.invariant-loop-name
invariant-loop-name l = l.names ++ drop l.name-index l.table ≡ l.initial.names ++ l.table
