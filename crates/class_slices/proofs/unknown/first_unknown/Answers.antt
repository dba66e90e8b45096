use Rattle.std.proofs.Common.{length, sym, ◌∙◌, subst}
use Rattle.graph_arena.specs.Arena.{AreBelow}
use Rattle.graph_arena.proofs.Closed.{order-is}
use Rattle.class_slices.proofs.FirstUnknown.{first_of_order}
use Rattle.class_slices.proofs.unknown.first_unknown.Goals as goal

pub first_of-requires : goal.first_of-requires
first_of-requires c =
    let g = c.args.graph.now in
    subst (AreBelow (length g.instances)) (sym (c.as_slice.ensures ∙ c.in_ok-order.ensures)) (order-is g c.len.ensures.sound).below

pub returns : goal.returns
returns c = first_of_order c.args.graph.now c.as_slice.result.now c.first_of.result (c.as_slice.ensures ∙ c.in_ok-order.ensures) c.first_of.ensures
