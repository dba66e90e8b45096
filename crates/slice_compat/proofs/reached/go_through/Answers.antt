use Rattle.std.proofs.Common.{sym, ◌∙◌}
use Rattle.slice_compat.proofs.Searching.{went_on, less_left, stood_still, no_items}
use Rattle.slice_compat.proofs.reached.go_through.Goals as goal

pub loop-node-smaller : goal.loop-node-smaller
loop-node-smaller c = less_left c.args.schema.now c.in-Some.node c.loop-node.marks c.spread.new.marks c.pop.new.self c.in-Some.ensures.items c.in_ok-spread.ensures

pub loop-node-preserved : goal.loop-node-preserved
loop-node-preserved c =
    went_on c.args.schema.now c.rules.ensures c.args.kind c.in-Some.node c.loop-node.marks c.spread.new.marks c.pop.new.self c.loop-node.invariant c.in-Some.ensures.items c.in_ok-spread.ensures

pub returns-clause-way : goal.returns-clause-way
returns-clause-way c = stood_still c.args.schema.now c.args.kind c.loop-node.marks c.pop.new.self
    (no_items c.pop.new.self.items (sym c.pop.new.self.ok.0 ∙ c.in_default.ensures.cases.1) ∙ sym (no_items c.loop-node.marks.pending.items (sym c.loop-node.marks.pending.ok.0 ∙ c.in_default.ensures.cases.0))) c.loop-node.invariant

pub returns-clause-all : goal.returns-clause-all
returns-clause-all c = no_items c.pop.new.self.items (sym c.pop.new.self.ok.0 ∙ c.in_default.ensures.cases.1)
