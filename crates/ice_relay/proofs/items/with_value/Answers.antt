use Rattle.graph_arena.specs.View.{view}
use Rattle.ice_relay.proofs.ItemTexts.{item_put}
use Rattle.ice_relay.proofs.items.with_value.Goals as goal

pub returns : goal.returns
returns c = item_put c.args.schema.now c.args.element c.args.later c.args.page c.in_ok-with_comma.field-0 (view c.args.item) c.push_item.result c.in_ok-with_comma.ensures c.push_item.ensures
