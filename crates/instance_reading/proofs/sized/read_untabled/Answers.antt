use Rattle.std.proofs.Common.{◌≡◌, Ok, false, [], sym, ap, ◌∙◌}
use Rattle.ice_encoding.specs.Classes.{own_members}
use Rattle.graph_arena.specs.Seen.{view_content}
use Rattle.value_parts.specs.SlicedType.{rows_of}
use Rattle.slice_heads.specs.Seen.{view_references}
use Rattle.instance_reading.proofs.Places.{nothing, members_read, fault_along}
use Rattle.instance_reading.proofs.sized.read_untabled.Goals as goal

pub returns-in-Ok : goal.returns-in-Ok
returns-in-Ok c =
    let none = ap view_references c.new.ensures.items in
    let same : c.read_own.new.port ≡ view_references c.new.result.items = c.is_unused.ensures ∙ sym none in (
      sym (members_read false (rows_of c.args.sort c.args.schema.now) c.args.flagged (own_members (rows_of c.args.sort c.args.schema.now) c.args.class) c.new-port.result [] c.args.bound.now c.new-port.ensures)
          ∙ c.in-Ok.ensures nothing
          ∙ (λ i. Ok (view_content c.in-Ok.members, same i, c.read_own.new.bound)),
      none,
    )

pub returns-in-Err : goal.returns-in-Err
returns-in-Err c =
    fault_along c.in-Err.fault _ _ (members_read false (rows_of c.args.sort c.args.schema.now) c.args.flagged (own_members (rows_of c.args.sort c.args.schema.now) c.args.class) c.new-port.result [] c.args.bound.now c.new-port.ensures) (c.in-Err.ensures nothing)
