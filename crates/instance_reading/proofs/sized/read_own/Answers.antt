use Rattle.std.proofs.Common.{ap, sym, ◌∙◌}
use Rattle.ice_encoding.specs.Pausing.{in_place}
use Rattle.ice_encoding.specs.Classes.{own_members}
use Rattle.value_parts.specs.Shapes.{told_apart}
use Rattle.value_parts.specs.SlicedType.{rows_of}
use Rattle.instance_reading.proofs.Places.{flagged_along, reads_along, rows_read}
use Rattle.instance_reading.proofs.sized.read_own.Goals as goal

pub returns : goal.returns
returns g c inside =
    let t = c.args.schema.now in
    let shape = own_members (rows_of c.args.sort t) c.args.class in
    reads_along c.read_members.result _ _ c.read_members.new.port c.read_members.new.cursor
    (flagged_along g.P.RefPort.take t inside c.args.flagged shape _ c.optionals.result c.args.port.now c.args.bound.now c.optionals.ensures (ap told_apart c.own_fields.ensures)
    ∙ (λ i. sym (rows_read (in_place g.P.RefPort.take inside) c.args.sort t c.args.flagged shape) i c.args.port.now c.args.bound.now))
    (c.read_members.ensures.reads inside)
