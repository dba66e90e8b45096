use Rattle.call_world.specs.Service.{free_rules}
use Rattle.call_world.proofs.Ordered.{order_lem}
use Rattle.call_world.proofs.capture_laws.answers_in_order.Goals as goal

pub returns : goal.returns
returns g c = order_lem (free_rules g.S.Capture.status)
