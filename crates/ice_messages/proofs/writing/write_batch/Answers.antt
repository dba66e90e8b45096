use Rattle.ice_messages.specs.declared.message.Message.TheVariants.{Batch}
use Rattle.ice_messages.proofs.Puts.{wrote, batch_message_puts}
use Rattle.ice_messages.proofs.writing.write_batch.Goals as goal

pub returns : goal.returns
returns c = rw c.from_vec.ensures
    (wrote (Batch c.args.calls.now) c.batch_length.result c.batch_length.ensures c.in_ok-out.ensures.1 c.in_ok-out.out.items c.put_batch.new.out.items c.in_ok-out.ensures.0 (batch_message_puts c.args.calls.now c.in_ok-out.out.items c.put_batch.new.out.items c.in_ok-put_batch.ensures))
