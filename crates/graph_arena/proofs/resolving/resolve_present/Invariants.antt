use Rattle.std.proofs.Common.{◌≡◌, map}
use Rattle.ice_encoding.specs.References.{entry_in}
use Rattle.graph_arena.specs.Seen.{view_option}
use Rattle.graph_arena.proofs.Renaming.{renamed_option, so_far}
use Rattle.graph_arena.proofs.resolving.resolve_present.Given as goal

abbrev pub invariant-loop-member : goal.invariant-loop-member
invariant-loop-member l = so_far (renamed_option (entry_in l.table)) view_option l.optional l.member-index ≡ map (renamed_option (entry_in l.table)) l.fn.optional
