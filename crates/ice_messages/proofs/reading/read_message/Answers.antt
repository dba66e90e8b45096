use Rattle.std.proofs.Common.{arith}
use Rattle.ice_messages.proofs.Nexts.{read_orderly}
use Rattle.ice_messages.proofs.Writable.{read_writable}
use Rattle.ice_messages.proofs.reading.read_message.Goals as goal

pub returns-clause-orderly : goal.returns-clause-orderly
returns-clause-orderly c = read_orderly c.args.bytes.now c.whole_message.result (λ i. omega (arith, c.type_inv.bytes i)) c.whole_message.ensures.message

pub returns-clause-writable : goal.returns-clause-writable
returns-clause-writable c = read_writable c.whole_message.result (read_orderly c.args.bytes.now c.whole_message.result (λ i. omega (arith, c.type_inv.bytes i)) c.whole_message.ensures.message)
