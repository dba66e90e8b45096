use Rattle.std.proofs.Common.{rules}
use Rattle.graph_arena.specs.Seen.{view_present}
use Rattle.ice_values.proofs.OptionParts.{format-refused, item-begins, item-refused, passed, passed-begins, passed-fails}
use Rattle.ice_values.proofs.options.OptionsReader.begin.Goals as goal

pub returns-then-lead-optional_format-clause-advances :
    goal.returns-then-lead-optional_format-clause-advances
returns-then-lead-optional_format-clause-advances g c inside marked members =
    rw c.in-Some.is (format-refused g.P.RefPort.take c.args.schema.now inside marked members (view_present c.args.self.now.done) c.args.self.now.steps c.args.lead.place c.args.lead.tag c.in-Some.kind c.args.lead.format c.args.port.now c.args.cursor.now (search (rules, c.optional_format.ensures, c.if-lead-optional_format.true)))

pub returns-in_err-begun-in-Some-clause-advances :
    goal.returns-in_err-begun-in-Some-clause-advances
returns-in_err-begun-in-Some-clause-advances g c inside marked members =
    let refused = item-refused g.P.RefPort.take c.args.schema.now inside marked members (view_present c.args.self.now.done) c.args.self.now.steps c.args.lead.place c.args.lead.tag c.in-Some.kind c.args.lead.format c.in_err-begun-in-Some.field-0.0 c.args.port.now c.args.cursor.now (search (rules, c.optional_format.ensures, c.if-lead-optional_format.false)) c.in_err-begun-in-Some.ensures in
    rw c.in-Some.is (search (rules, refused))

pub returns-in_err-name-in-None-clause-advances : goal.returns-in_err-name-in-None-clause-advances
returns-in_err-name-in-None-clause-advances g c inside marked members =
    let fails = passed-fails g.P.RefPort.take c.args.schema.now inside marked members (view_present c.args.self.now.done) c.args.self.now.steps c.args.lead.place c.args.lead.tag c.args.lead.format c.in_err-name-in-None.field-0.0 c.args.port.now c.args.cursor.now (c.in_err-name-in-None.ensures.goes inside c.args.schema.now) in
    rw c.in-None.is (search (rules, fails))

pub returns-in_ok-begun-in-Some-clause-advances : goal.returns-in_ok-begun-in-Some-clause-advances
returns-in_ok-begun-in-Some-clause-advances g c inside marked members =
    rw (c.in-Some.is, c.requires.last, c.replace.ensures.after) (item-begins g.P.RefPort.take c.args.schema.now inside marked members (view_present c.args.self.now.done) c.args.self.now.steps c.args.lead.place c.args.lead.tag c.in-Some.kind c.args.lead.format c.in_ok-begun-in-Some.field-0 c.args.port.now c.args.cursor.now c.begun.new.cursor (search (rules, c.optional_format.ensures, c.if-lead-optional_format.false)) c.in_ok-begun-in-Some.ensures.0 c.in_ok-begun-in-Some.ensures.1)

pub returns-in-Begins-clause-advances : goal.returns-in-Begins-clause-advances
returns-in-Begins-clause-advances g c inside marked members =
    rw (c.in-None.is, c.requires.none, c.requires.last) (passed-begins g.P.RefPort.take c.args.schema.now inside marked members (view_present c.args.self.now.done) c.args.self.now.steps c.args.lead.place c.args.lead.tag c.args.lead.format c.in-Begins.name c.args.port.now c.pass_over.new.port c.args.cursor.now c.pass_over.new.cursor (rw c.in-Begins.is at (c.in_ok-name-in-None.ensures.goes inside c.args.schema.now)))

pub returns-in-Done-clause-advances : goal.returns-in-Done-clause-advances
returns-in-Done-clause-advances g c inside marked members =
    rw (c.in-None.is, c.requires.none, c.requires.last) (passed g.P.RefPort.take c.args.schema.now inside marked members (view_present c.args.self.now.done) c.args.self.now.steps c.args.lead.place c.args.lead.tag c.args.lead.format c.args.port.now c.pass_over.new.port c.args.cursor.now c.pass_over.new.cursor (rw c.in-Done.is at (c.in_ok-name-in-None.ensures.goes inside c.args.schema.now)))
