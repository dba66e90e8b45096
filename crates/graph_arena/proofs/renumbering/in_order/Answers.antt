use Rattle.std.proofs.Common.{◌≡◌, ◌∙◌, ap, drop, length, map, slice_index_or}
use Rattle.std.specs.List.{refill}
use Rattle.std.proofs.lemmas.List.{take_at}
use Rattle.ice_encoding.specs.Instances.{slices_of}
use Rattle.ice_encoding.specs.Names.{renamed_slice}
use Rattle.ice_encoding.specs.References.{entry_in}
use Rattle.graph_arena.specs.Seen.{view_instance, view_slices}
use Rattle.graph_arena.proofs.Taking.{found, left-first, left-next, taken-first, taken-next}
use Rattle.graph_arena.proofs.renumbering.in_order.Goals as goal

pub loop-name-init : goal.loop-name-init
loop-name-init c = record {
  left = left-first view_instance c.args.instances.items c.args.names.now c.requires.once c.requires.in_range;
  taken = taken-first view_instance (λ n. map (renamed_slice (entry_in c.args.table.now)) (slices_of (map view_instance c.args.instances.items) n)) c.args.names.now c.in_ok-taken.taken.items c.in_ok-taken.ensures.items;
}

pub loop-name-preserved : goal.loop-name-preserved
loop-name-preserved c =
    let here : view_slices c.replace-slices.result ≡ slices_of (map view_instance c.loop-name.instances.items) (slice_index_or c.args.names.now c.loop-name.name-index 0) =
    ap view_slices c.replace-slices.ensures.value ∙ (ap view_instance c.index_mut.ensures.value
    ∙ found view_instance c.loop-name.instances.items (map view_instance c.args.instances.items) c.args.names.now c.loop-name.name-index c.loop-name-test.true c.loop-name.invariant.left c.index_mut.result.now) in
    let whole : refill (length c.replace-slices.result) c.replace-slices.result c.resolve_slices.new.slices ≡ c.resolve_slices.new.slices =
    take_at c.resolve_slices.new.slices (drop (length c.resolve_slices.new.slices) c.replace-slices.result) (length c.replace-slices.result) (c.resolve_slices.auto.slices ∙ ap length c.as_mut_slice.ensures.value) in
    record {
      left =
          left-next view_instance c.loop-name.instances.items (map view_instance c.args.instances.items) c.args.names.now c.loop-name.name-index c.loop-name-test.true c.loop-name.invariant.left
          (record { slices = c.replace-slices.new.dest });
      taken =
          taken-next view_instance c.loop-name.instances.items (map view_instance c.args.instances.items) c.args.names.now c.loop-name.name-index c.loop-name-test.true c.loop-name.invariant.left
          (map (renamed_slice (entry_in c.args.table.now))) c.loop-name.taken.items c.push.new.self.items _ c.in_ok-push.ensures.items
          (ap view_slices whole ∙ c.resolve_slices.ensures ∙ ap (map (renamed_slice (entry_in c.args.table.now))) (ap view_slices c.as_mut_slice.ensures.value ∙ here)) c.loop-name.invariant.taken;
    }
