use Rattle.std.proofs.Common.{ℕ, length, sym, ap, ◌∙◌, subst}
use Rattle.graph_arena.specs.Arena.{AreBelow}
use Rattle.graph_arena.proofs.Closed.{order-is}
use Rattle.value_checks.specs.First.{AreFine, AreMarkedFine}
use Rattle.value_checks.proofs.Places.{marked-fine, reached-first, least_first}
use Rattle.value_checks.proofs.first.first_ill_instance.Goals as goal

pub first_of-requires : goal.first_of-requires
first_of-requires c =
    let g = c.args.graph.now in
    subst (AreBelow (length g.instances)) (sym (c.as_slice.ensures ∙ c.in_ok-order.ensures)) (order-is g c.len-count.ensures.sound).below

pub marks_of-requires : goal.marks_of-requires
marks_of-requires c =
    let g = c.args.graph.now in
    subst (λ (n : ℕ). AreBelow n c.as_slice-2.result.now) (sym c.len-count.ensures.len)
    (subst (AreBelow (length g.instances)) (sym (c.as_slice-2.ensures ∙ c.in_ok-order.ensures)) (order-is g c.len-count.ensures.sound).below)

pub least_unmarked-requires : goal.least_unmarked-requires
least_unmarked-requires c =
    let t = c.args.schema.now in
    let g = c.args.graph.now in
    let fine = subst (AreFine t g) (c.as_slice.ensures ∙ sym c.as_slice-2.ensures) c.in_default.ensures in
    record {
      size = ap length c.deref.ensures.value ∙ (c.in_ok-reached.ensures.size ∙ c.len-count.ensures.len);
      fine = subst (AreMarkedFine t g) (sym c.deref.ensures.value) (marked-fine t g c.in_ok-reached.reached.items c.as_slice-2.result.now c.in_ok-reached.ensures.marks fine);
    }

pub returns-in-Some : goal.returns-in-Some
returns-in-Some c =
    let g = c.args.graph.now in
    let is = c.as_slice.ensures ∙ c.in_ok-order.ensures in
    let below = subst (AreBelow (length g.instances)) (sym is) (order-is g c.len-count.ensures.sound).below in
    reached-first c.args.schema.now g c.as_slice.result.now c.in-Some.place below c.in-Some.ensures is

pub returns : goal.returns
returns c = least_first c.args.schema.now c.args.graph.now c.as_slice.result.now c.least_unmarked.result c.in_default.ensures c.least_unmarked.ensures (c.as_slice.ensures ∙ c.in_ok-order.ensures)
