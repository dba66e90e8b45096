use Rattle.ice_relay.proofs.NextItem.{item_taken}
use Rattle.ice_relay.proofs.items.next_value.Goals as goal

pub returns : goal.returns
returns c = λ v rest typed is. item_taken c.args.schema.now c.args.element c.args.cursor.now c.read_value.new.cursor c.read_value.result c.read_value.new.port c.read_value.ensures.reads v rest typed is
