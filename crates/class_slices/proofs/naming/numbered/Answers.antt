use Rattle.std.proofs.Common.{◌≡◌, ◌∙◌, List, drop, length, map, refl, ap}
use Rattle.std.proofs.lemmas.List.{take_at}
use Rattle.std.specs.List.{refill}
use Rattle.ice_encoding.specs.Names.{renamed_slice}
use Rattle.ice_encoding.specs.References.{entry_in}
use Rattle.ice_encoding.specs.Visiting.{order}
use Rattle.graph_arena.specs.Seen.{view_slices}
use Rattle.graph_arena.specs.declared.instance.Slice.{Slice}
use Rattle.instance_writing.specs.Writable.{user_exception_of}
use Rattle.class_slices.specs.Seen.{view_user_exception}
use Rattle.class_slices.proofs.Named.{numbered-is}
use Rattle.class_slices.proofs.naming.numbered.Goals as goal

pub returns-in-Ok-renumbered : goal.returns-in-Ok-renumbered
returns-in-Ok-renumbered c =
    let g = c.args.user_exception.graph in
    let old = c.args.user_exception.slices in
    let new = c.resolve_slices.new.slices in
    let whole : refill (length old) old new ≡ new = take_at new (drop (length new) old) (length old) (c.resolve_slices.auto.slices ∙ ap length c.as_mut_slice.ensures.value) in
    let put : view_slices new ≡ map (renamed_slice (entry_in c.as_slice.result.now)) (view_slices old) =
    c.resolve_slices.ensures ∙ ap (λ (l : List Slice). map (renamed_slice (entry_in c.as_slice.result.now)) (view_slices l)) c.as_mut_slice.ensures.value in
    ap (λ (l : List Slice). user_exception_of (view_slices l) c.in-Ok-renumbered.graph) whole
    ∙ numbered-is (view_user_exception c.args.user_exception) g c.requires c.index_by_visits.ensures.sound (length g.instances) refl (order g) c.in-Ok.index.items c.as_slice.result.now
    refl c.in-Ok.ensures.index c.as_slice.ensures.value (view_slices new) put c.in-Ok-renumbered.graph c.in-Ok-renumbered.ensures
