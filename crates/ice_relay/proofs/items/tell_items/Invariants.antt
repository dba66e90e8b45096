use Rattle.std.specs.Prelude.{◌≡◌, ◌++◌, false}
use Rattle.ice_encoding.specs.Tree.{Trees, tree_count}
use Rattle.ice_relay.specs.Items.{AreItems, each_text}
use Rattle.ice_relay.proofs.ItemTexts.{Remain}
use Rattle.ice_relay.proofs.items.tell_items.Given as goal

abbrev pub invariant-loop-at : goal.invariant-loop-at
invariant-loop-at g l = (items : Trees) → AreItems l.schema l.element items l.initial.cursor.bytes → tree_count items ≡ l.count
    → Remain l.schema l.element l.count l.at l.cursor.bytes (l.initial.page.items ++ each_text l.schema l.element false items)
    (g.K.Sink.taken l.initial.sink) (g.K.Sink.taken l.sink) (g.K.Sink.failures l.initial.sink) (g.K.Sink.failures l.sink) l.page
