use Rattle.std.proofs.Common.{◌≡◌, ◌++◌, drop}
use Rattle.ice_encoding.specs.Names.{names_present}
use Rattle.graph_arena.specs.Seen.{view_present}
use Rattle.graph_arena.proofs.names.push_present.Given as goal

abbrev pub invariant-loop-member : goal.invariant-loop-member
invariant-loop-member l = l.names ++ names_present (view_present (drop l.member-index l.optional)) ≡ l.initial.names ++ names_present (view_present l.optional)
