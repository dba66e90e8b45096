use Rattle.std.proofs.Common.{map, ◌∙◌, ap}
use Rattle.ice_encoding.specs.References.{with_ended}
use Rattle.graph_arena.specs.Seen.{view_instance, view_slice}
use Rattle.slice_heads.specs.Seen.{view_references}
use Rattle.slice_heads.proofs.Arenas.{map-replaced}
use Rattle.slice_heads.proofs.arena.Arena.end.Goals as goal

pub returns : goal.returns
returns c =
    let seen = ap (map view_instance) c.put_at.ensures ∙ map-replaced view_instance c.args.name (record { slices = c.args.slices }) c.self.inside.instances.items in
    (λ i. record { instances = seen i; ids = map (λ id. id.now) c.self.inside.ids.items; met = view_references c.self.inside.met.items }) ∙ ap (with_ended c.args.name (map view_slice c.args.slices)) c.self.view_is
