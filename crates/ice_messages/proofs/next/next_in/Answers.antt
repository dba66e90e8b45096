use Rattle.std.proofs.Common.{arith}
use Rattle.ice_messages.proofs.Known.{known_next}
use Rattle.ice_messages.proofs.next.next_in.Goals as goal

pub returns : goal.returns
returns c = known_next c.read_next.result c.args.bytes.now (λ i. omega (arith, c.type_inv.bytes i)) c.read_next.ensures
