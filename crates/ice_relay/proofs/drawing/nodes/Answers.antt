use Rattle.ice_relay.proofs.Views.{six_more, one_more}
use Rattle.ice_relay.proofs.drawing.nodes.Goals as goal

pub loop-preserved : goal.loop-preserved
loop-preserved c = record {
  stands = six_more c.args.start c.loop.counter c.loop.generator.number c.node.new.generator.number c.loop.invariant.stands c.in_ok-node.ensures.number;
  drawn = one_more c.args.start c.args.count c.loop.counter c.loop.generator.number c.loop.nodes.items c.push.new.self.items c.in_ok-node.field-0 c.loop.invariant.stands c.in_ok-push.ensures.items c.in_ok-node.ensures.node c.loop.invariant.drawn;
}
