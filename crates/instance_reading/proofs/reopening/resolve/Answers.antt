use Rattle.std.proofs.Common.{List, Ok, length, sym, ap, ◌∙◌}
use Rattle.ice_encoding.specs.Graph.{known}
use Rattle.slice_heads.specs.Seen.{view_references}
use Rattle.instance_reading.specs.Slices.{first_outside}
use Rattle.slice_heads.specs.declared.arena.Reference.{Reference}
use Rattle.instance_reading.proofs.Places.{all_inside, one_outside}
use Rattle.instance_reading.proofs.reopening.resolve.Goals as goal

pub returns-in-Some : goal.returns-in-Some
returns-in-Some c =
    let seen = ap (λ (uses : List Reference). first_outside (length c.args.table.now) (view_references uses)) (sym c.as_slice.ensures.value) in
    one_outside (length c.args.table.now) (view_references c.args.read.uses.items) _ c.in-Some.place (seen ∙ sym c.first_outside.ensures ∙ c.in-Some.is)

pub returns-in-None : goal.returns-in-None
returns-in-None c =
    let seen = ap (λ (uses : List Reference). first_outside (length c.args.table.now) (view_references uses)) (sym c.as_slice.ensures.value) in
    all_inside (length c.args.table.now) (view_references c.args.read.uses.items) _ (seen ∙ sym c.first_outside.ensures ∙ c.in-None.is) ∙ (λ i. Ok (known c.args.class (sym c.resolve_members.ensures i)))
