use Rattle.std.proofs.Common.{true, [], sym, ◌∙◌}
use Rattle.ice_encoding.specs.Classes.{own_members}
use Rattle.value_parts.specs.SlicedType.{rows_of}
use Rattle.instance_reading.proofs.Places.{nothing, members_read, fault_along}
use Rattle.instance_reading.proofs.sized.read_tabled.Goals as goal

pub returns-in-Ok : goal.returns-in-Ok
returns-in-Ok c = (
  sym (members_read true (rows_of c.args.sort c.args.schema.now) c.args.flagged (own_members (rows_of c.args.sort c.args.schema.now) c.args.class) c.new-port.result [] c.args.bound.now c.new-port.ensures)
      ∙ rw (sym c.into_uses.ensures) at (c.in-Ok.ensures nothing),
  tt,
)

pub returns-in-Err : goal.returns-in-Err
returns-in-Err c =
    fault_along c.in-Err.fault _ _ (members_read true (rows_of c.args.sort c.args.schema.now) c.args.flagged (own_members (rows_of c.args.sort c.args.schema.now) c.args.class) c.new-port.result [] c.args.bound.now c.new-port.ensures) (c.in-Err.ensures nothing)
