use Rattle.std.proofs.Common.{◌≡◌, ◌∙◌, ap, length, List, map, refl, subst, sym, ℕ}
use Rattle.std.proofs.lemmas.List.{length-map}
use Rattle.ice_encoding.specs.Graph.{Slice}
use Rattle.ice_encoding.specs.SameGraph.{HasEachOnce}
use Rattle.ice_encoding.specs.Visiting.{order}
use Rattle.graph_arena.specs.Arena.{AreBelow, IsSound}
use Rattle.graph_arena.specs.Renumbering.{IsIndex}
use Rattle.graph_arena.specs.Seen.{view_content, view_instance}
use Rattle.graph_arena.proofs.Closed.{order-is}
use Rattle.graph_arena.proofs.Formed.{answered, form-sound}
use Rattle.graph_arena.proofs.graph.Graph.by_visits.Goals as goal

pub in_order-requires-clause-once : goal.in_order-requires-clause-once
in_order-requires-clause-once c = subst HasEachOnce (sym c.requires.visits) (order-is c.args.self c.requires.sound).holds.once

pub in_order-requires-clause-in_range : goal.in_order-requires-clause-in_range
in_order-requires-clause-in_range c =
    let count : length c.args.self.instances ≡ length c.into_parts-roots.result.1.items =
    ap length (sym c.into_parts-roots.ensures.instances) ∙ length-map {B = List Slice} c.into_parts-roots.result.1.items view_instance in
    subst (AreBelow (length c.into_parts-roots.result.1.items)) (sym c.requires.visits)
    (subst (λ (n : ℕ). AreBelow n (order c.args.self)) count (order-is c.args.self c.requires.sound).below)

pub of-requires : goal.of-requires
of-requires c =
    let is = answered c.args.self c.requires.sound (length c.args.self.instances) refl c.args.visits.now c.args.index.now c.requires.visits
    (subst (λ (ns : List ℕ). IsIndex (length c.args.self.instances) ns c.args.index.now) (sym c.requires.visits) c.requires.index)
    (view_content c.into_parts-roots.result.0) c.into_parts-roots.ensures.roots c.args.index.now refl
    (view_content c.resolve_members.new.members) c.resolve_members.ensures
    (map view_instance c.into_parts-roots.result.1.items) c.into_parts-roots.ensures.instances c.args.visits.now c.args.index.now c.requires.visits refl
    (map view_instance c.in-Ok.taken.items) c.in-Ok.ensures in
    subst IsSound (sym is) (form-sound c.args.self c.requires.sound)

pub returns-in-Ok : goal.returns-in-Ok
returns-in-Ok c =
    c.of.ensures ∙ answered c.args.self c.requires.sound (length c.args.self.instances) refl c.args.visits.now c.args.index.now c.requires.visits
    (subst (λ (ns : List ℕ). IsIndex (length c.args.self.instances) ns c.args.index.now) (sym c.requires.visits) c.requires.index)
    (view_content c.into_parts-roots.result.0) c.into_parts-roots.ensures.roots c.args.index.now refl
    (view_content c.resolve_members.new.members) c.resolve_members.ensures
    (map view_instance c.into_parts-roots.result.1.items) c.into_parts-roots.ensures.instances c.args.visits.now c.args.index.now c.requires.visits refl
    (map view_instance c.in-Ok.taken.items) c.in-Ok.ensures
