use Rattle.std.proofs.Common.{sym, ◌∙◌}
use Rattle.graph_json.proofs.Halving.{first_there, next_left}
use Rattle.graph_json.proofs.found.first_named.Goals as goal

pub returns-then-eq : goal.returns-then-eq
returns-then-eq c = first_there c.args.name.now c.args.entries.now c.loop-entry.entry-index c.entry-item.result c.loop-entry-test.true c.entry-item.is c.loop-entry.invariant (sym c.eq.ensures ∙ c.if-eq.true)

pub loop-entry-preserved : goal.loop-entry-preserved
loop-entry-preserved c = next_left c.args.name.now c.args.entries.now c.loop-entry.entry-index c.entry-item.result c.loop-entry-test.true c.entry-item.is c.loop-entry.invariant (sym c.eq.ensures ∙ c.if-eq.false)
