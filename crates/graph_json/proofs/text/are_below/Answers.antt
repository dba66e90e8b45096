use Rattle.graph_json.proofs.Sound.{all_below, below_next, one_not_below}
use Rattle.graph_json.proofs.text.are_below.Goals as goal

pub returns : goal.returns
returns c = (λ yes. all_below c.args.count c.args.names.now c.loop-name.name-index c.loop-name-test.false c.loop-name.invariant, λ h. cc)

pub returns-then-name-count : goal.returns-then-name-count
returns-then-name-count c = (λ no. absurd cc, λ h. absurd (one_not_below c.args.count c.args.names.now c.loop-name.name-index c.loop-name-test.true c.if-name-count.true h))

pub loop-name-preserved : goal.loop-name-preserved
loop-name-preserved c = below_next c.args.count c.args.names.now c.loop-name.name-index c.loop-name-test.true c.loop-name.invariant c.if-name-count.false
