use Rattle.std.proofs.Common.{rules, ◌++◌, ◌∷◌, []}
use Rattle.ice_values.specs.Going.{onward, whole_value}
use Rattle.ice_values.proofs.Costs.{begun-less}
use Rattle.ice_values.proofs.Frames.{starts-given, starts-fails}
use Rattle.ice_values.proofs.reader.ValueReader.begin_parts.Goals as goal

pub returns-clause-steps : goal.returns-clause-steps
returns-clause-steps g c inside =
    starts-given g.P.RefPort.take c.args.schema.now inside c.args.levels c.args.kind c.args.self.now c.begin.new.self c.in_ok-frame.frame c.args.port.now c.args.cursor.now c.begun.new.cursor c.requires c.in_ok-frame.ensures.starts c.in_ok-begin.ensures.0 c.in_ok-begin.ensures.1

pub returns-clause-less : goal.returns-clause-less
returns-clause-less g c =
    begun-less c.args.schema.now c.args.levels c.args.self.now c.begin.new.self _ c.in_ok-begin.ensures.0 c.in_ok-begin.ensures.1 c.in_ok-frame.ensures.less

pub returns-in_err-frame-clause-steps : goal.returns-in_err-frame-clause-steps
returns-in_err-frame-clause-steps g c inside =
    let fails = starts-fails g.P.RefPort.take c.args.schema.now inside c.args.levels c.args.kind c.in_err-frame.field-0.0 (onward g.P.RefPort.take c.args.schema.now inside whole_value (c.args.self.now.below ++ c.args.self.now.top ∷ [])) c.args.port.now c.args.cursor.now c.requires c.in_err-frame.ensures.starts in
    search (rules, fails)
