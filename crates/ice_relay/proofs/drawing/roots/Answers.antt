use Rattle.ice_relay.proofs.Views.{root-view}
use Rattle.ice_relay.proofs.drawing.roots.Goals as goal

pub returns : goal.returns
returns c = root-view c.first.result c.new-required.result c.push.new.self c.new.result c.first.ensures c.new-required.ensures c.in_ok-push.ensures.ok c.new.ensures
