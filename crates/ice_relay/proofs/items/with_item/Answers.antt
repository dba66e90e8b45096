use Rattle.graph_arena.specs.View.{view}
use Rattle.ice_relay.proofs.ItemTexts.{item_there}
use Rattle.ice_relay.proofs.items.with_item.Goals as goal

pub returns-in-Ok : goal.returns-in-Ok
returns-in-Ok c = λ v rest typed is.
    item_there c.args.schema.now c.args.element c.args.later c.args.page v (view c.in-Ok.value) c.next_value.new.cursor.bytes rest (c.in-Ok.ensures v rest typed is) c.with_value.result c.with_value.ensures
