use Rattle.std.proofs.Common.{sym, subst}
use Rattle.ice_values.specs.Advancing.{ReadsMembers}
use Rattle.value_parts.specs.Shapes.{handed}
use Rattle.ice_values.proofs.Stages.{left-fresh}
use Rattle.ice_values.proofs.members_reader.read_on.Goals as goal

pub returns : goal.returns
returns g c inside =
    subst (λ read. ReadsMembers c.finish-result.result read c.finish-result.new.port c.finish-result.new.cursor)
    (sym (left-fresh g.P.RefPort.take c.args.schema.now inside c.args.optionals (handed c.args.fields) c.args.port.now c.args.cursor.now))
    (rw c.new-reader.ensures at (c.finish-result.ensures inside))
