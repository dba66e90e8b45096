use Rattle.std.proofs.Common.{refl}
use Rattle.ice_relay.proofs.node_schema.required.Goals as goal

pub returns : goal.returns
returns c = rw c.in_ok-of.ensures refl
