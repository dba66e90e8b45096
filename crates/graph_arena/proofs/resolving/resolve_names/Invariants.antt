use Rattle.std.proofs.Common.{◌≡◌, map}
use Rattle.ice_encoding.specs.References.{entry_in}
use Rattle.graph_arena.proofs.Renaming.{itself, so_far}
use Rattle.graph_arena.proofs.resolving.resolve_names.Given as goal

abbrev pub invariant-loop-name : goal.invariant-loop-name
invariant-loop-name l = so_far (entry_in l.table) itself l.names l.name-index ≡ map (entry_in l.table) l.fn.names
