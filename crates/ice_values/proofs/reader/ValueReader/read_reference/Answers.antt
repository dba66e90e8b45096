use Rattle.std.proofs.Common.{Some}
use Rattle.ice_encoding.specs.Tree.{reference}
use Rattle.graph_arena.specs.declared.value.Value.TheVariants as variants
use Rattle.ice_values.proofs.Costs.{given-less}
use Rattle.ice_values.proofs.Frames.{view_reference, value-given, begun-given}
use Rattle.ice_values.proofs.reader.ValueReader.read_reference.Goals as goal

pub returns-in_ok-give-in-Known-clause-steps : goal.returns-in_ok-give-in-Known-clause-steps
returns-in_ok-give-in-Known-clause-steps g c inside =
    rw (c.in_ok-name.ensures.takes, c.in-Known.is) (value-given g.P.RefPort.take c.args.schema.now inside c.args.self.now c.give.new.self (variants.Reference c.in-Known.name) (reference c.in-Known.name) c.take_ref.new.self c.take_ref.new.cursor (view_reference c.in-Known.name) c.in_ok-give-in-Known.ensures)

pub returns-in_ok-give-in-Known-clause-less : goal.returns-in_ok-give-in-Known-clause-less
returns-in_ok-give-in-Known-clause-less g c = given-less c.args.schema.now c.args.levels c.args.self.now c.give.new.self _ c.in_ok-give-in-Known.ensures

pub returns-in_ok-give-in-Begins-clause-steps : goal.returns-in_ok-give-in-Begins-clause-steps
returns-in_ok-give-in-Begins-clause-steps g c inside =
    rw (c.in_ok-name.ensures.takes, c.in-Begins.is) (begun-given g.P.RefPort.take c.args.schema.now inside c.args.self.now c.give-in-Begins.new.self (variants.Reference (Some c.in-Begins.name)) c.in-Begins.name c.take_ref.new.self c.take_ref.new.cursor (view_reference (Some c.in-Begins.name)) c.in_ok-give-in-Begins.ensures)
