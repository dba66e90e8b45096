use Rattle.std.proofs.Common.{refl, subst, None, Some}
use Rattle.graph_arena.specs.Seen.{view_content}
use Rattle.value_parts.specs.Shapes.{shape_seen}
use Rattle.value_checks.specs.First.{IsFirstInstance}
use Rattle.value_checks.proofs.FirstIll.{all_typed, are_roots, ill_not_typed, instance_first, not_roots, on_err, roots_first}
use Rattle.value_checks.proofs.first.first_ill_typed.Goals as goal

pub returns-then-not-are_members : goal.returns-then-not-are_members
returns-then-not-are_members c =
    let t = c.args.schema.now in
    let g = c.args.graph.now in
    let shape = shape_seen c.args.fields in
    let h = roots_first t g shape (not_roots t g shape (view_content c.roots.result.now) c.roots.ensures.roots c.are_members.result c.are_members.ensures c.if-not-are_members.true) in
    record { typed = ill_not_typed t g shape None h; first = h; memory = tt }

pub returns-in-Some : goal.returns-in-Some
returns-in-Some c =
    let t = c.args.schema.now in
    let g = c.args.graph.now in
    let shape = shape_seen c.args.fields in
    let roots = are_roots t g shape (view_content c.roots.result.now) c.roots.ensures.roots c.are_members.result c.are_members.ensures c.if-not-are_members.false in
    let h = instance_first t g shape c.in-Some.place roots (subst (IsFirstInstance t g) c.in-Some.is c.in_ok-place.ensures) in
    record { typed = ill_not_typed t g shape (Some c.in-Some.place) h; first = h; memory = tt }

pub returns-in-None : goal.returns-in-None
returns-in-None c =
    let t = c.args.schema.now in
    let g = c.args.graph.now in
    let shape = shape_seen c.args.fields in
    let roots = are_roots t g shape (view_content c.roots.result.now) c.roots.ensures.roots c.are_members.result c.are_members.ensures c.if-not-are_members.false in
    record { typed = all_typed t g shape None refl roots (subst (IsFirstInstance t g) c.in-None.is c.in_ok-place.ensures); first = tt; memory = tt }

pub returns-in_err-place-clause-memory : goal.returns-in_err-place-clause-memory
returns-in_err-place-clause-memory c =
    on_err c.from_residual.result
    (are_roots c.args.schema.now c.args.graph.now (shape_seen c.args.fields) (view_content c.roots.result.now) c.roots.ensures.roots c.are_members.result c.are_members.ensures c.if-not-are_members.false)
