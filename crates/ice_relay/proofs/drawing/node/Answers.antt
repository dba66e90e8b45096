use Rattle.ice_relay.proofs.Views.{node-view}
use Rattle.ice_relay.proofs.drawing.node.Goals as goal

pub returns-clause-node : goal.returns-clause-node
returns-clause-node c =
    node-view c.args.count c.args.generator.now.number c.value-v.new.generator.number c.reference-left.new.generator.number c.value-v.result c.reference-left.result c.reference-right.result c.new-required.result c.push.new.self c.push-2.new.self c.push-3.new.self c.new.result c.new-slices.result c.push-4.new.self
    c.new-required.ensures c.in_ok-push.ensures.ok c.in_ok-push-2.ensures.ok c.in_ok-push-3.ensures.ok c.new.ensures c.new-slices.ensures c.in_ok-push-4.ensures.ok
    c.value-v.ensures.number c.reference-left.ensures.number c.value-v.ensures.value c.reference-left.ensures.value c.reference-right.ensures.value
