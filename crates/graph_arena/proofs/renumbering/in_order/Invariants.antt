use Rattle.std.proofs.Common.{◌≡◌, ◌++◌, drop, map}
use Rattle.ice_encoding.specs.Instances.{slices_of}
use Rattle.ice_encoding.specs.Names.{renamed_slice}
use Rattle.ice_encoding.specs.References.{entry_in}
use Rattle.graph_arena.specs.Seen.{view_instance}
use Rattle.graph_arena.proofs.Taking.{AreLeft}
use Rattle.graph_arena.proofs.renumbering.in_order.Given as goal

abbrev pub invariant-loop-name : goal.invariant-loop-name
invariant-loop-name l = record {
  left : AreLeft (map view_instance l.instances.items) (map view_instance l.fn.instances.items) (drop l.name-index l.names);
  taken : map view_instance l.taken.items ++ map (λ n. map (renamed_slice (entry_in l.table)) (slices_of (map view_instance l.fn.instances.items) n)) (drop l.name-index l.names)
      ≡ map (λ n. map (renamed_slice (entry_in l.table)) (slices_of (map view_instance l.fn.instances.items) n)) l.names;
}
