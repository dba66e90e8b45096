use Rattle.std.proofs.Common.{rules, ◌++◌, ◌∷◌, []}
use Rattle.ice_values.specs.Going.{onward, whole_value}
use Rattle.ice_values.proofs.Costs.{given-less}
use Rattle.ice_values.proofs.Frames.{leaf-given, leaf-fails}
use Rattle.ice_values.proofs.reader.ValueReader.read_leaf.Goals as goal

pub returns-in_err-value-clause-steps : goal.returns-in_err-value-clause-steps
returns-in_err-value-clause-steps g c inside =
    let fails = leaf-fails g.P.RefPort.take c.args.schema.now inside c.args.levels c.args.kind c.in_err-value.field-0.0 (onward g.P.RefPort.take c.args.schema.now inside whole_value (c.args.self.now.below ++ c.args.self.now.top ∷ [])) c.args.port.now c.args.cursor.now c.requires c.in_err-value.ensures in
    search (rules, fails)

pub returns-clause-steps : goal.returns-clause-steps
returns-clause-steps g c inside =
    leaf-given g.P.RefPort.take c.args.schema.now inside c.args.levels c.args.kind c.args.self.now c.give.new.self c.in_ok-value.value c.args.port.now c.args.cursor.now c.take_leaf.new.cursor c.requires c.in_ok-value.ensures c.in_ok-give.ensures

pub returns-clause-less : goal.returns-clause-less
returns-clause-less g c = given-less c.args.schema.now c.args.levels c.args.self.now c.give.new.self _ c.in_ok-give.ensures
