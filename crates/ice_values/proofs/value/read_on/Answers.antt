use Rattle.std.proofs.Common.{sym, subst}
use Rattle.ice_values.specs.Going.{ReadsValue}
use Rattle.ice_values.proofs.Frames.{left-whole}
use Rattle.ice_values.proofs.value.read_on.Goals as goal

pub returns : goal.returns
returns g c inside =
    subst (λ read. ReadsValue c.finish-result.result read c.finish-result.new.port c.finish-result.new.cursor)
    (sym (left-whole g.P.RefPort.take c.args.schema.now inside c.args.kind c.new-reader.result c.args.port.now c.args.cursor.now c.new-reader.ensures))
    (c.finish-result.ensures inside)
