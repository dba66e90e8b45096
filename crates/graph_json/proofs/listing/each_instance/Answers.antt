use Rattle.std.proofs.Common.{◌≡◌, ◌+◌, ◌++◌, [], ◌∷◌, option_map, drop, map, subst}
use Rattle.std.proofs.lemmas.List.{map_push}
use Rattle.graph_json.specs.View.{view as json_view, items_view}
use Rattle.graph_arena.specs.Seen.{view_instance}
use Rattle.graph_json.specs.Reading.{items_of, instance_of}
use Rattle.graph_json.proofs.Walking.{items_go_on, items_stop, items_done}
use Rattle.graph_json.proofs.WalkingValues.{item_left, no_item_left, some_is}
use Rattle.graph_json.proofs.listing.each_instance.Goals as goal

pub loop-item-preserved : goal.loop-item-preserved
loop-item-preserved c =
    let of = instance_of c.args.schema.now in
    let pushed : map view_instance c.push.new.self.items ≡ map view_instance c.loop-item.instances.items ++ view_instance c.in-Some.instance ∷ [] = rw c.in_ok-push.ensures.items (map_push view_instance c.loop-item.instances.items c.in-Some.instance) in
    let left = item_left c.args.items.now c.loop-item.item-index c.item-item.result c.loop-item-test.true c.item-item.is in
    rw pushed (items_go_on of (items_view (drop c.loop-item.item-index c.args.items.now)) (items_view (drop (c.loop-item.item-index + 1) c.args.items.now)) (json_view c.item-item.result) left (map view_instance c.loop-item.instances.items)
    (items_of of (items_view c.args.items.now)) c.loop-item.invariant (view_instance c.in-Some.instance) (some_is view_instance c.in_ok-instance.field-0 c.in-Some.instance _ c.in-Some.is c.in_ok-instance.ensures))

pub returns-in_default : goal.returns-in_default
returns-in_default c =
    let of = instance_of c.args.schema.now in
    let left = item_left c.args.items.now c.loop-item.item-index c.item-item.result c.loop-item-test.true c.item-item.is in
    items_stop of (items_view (drop c.loop-item.item-index c.args.items.now)) (items_view (drop (c.loop-item.item-index + 1) c.args.items.now)) (json_view c.item-item.result) left (map view_instance c.loop-item.instances.items)
    (items_of of (items_view c.args.items.now)) c.loop-item.invariant (subst (λ o. option_map view_instance o ≡ of (json_view c.item-item.result)) c.in_default.is c.in_ok-instance.ensures)

pub returns : goal.returns
returns c =
    let of = instance_of c.args.schema.now in
    items_done of (items_view (drop c.loop-item.item-index c.args.items.now)) (map view_instance c.loop-item.instances.items) (items_of of (items_view c.args.items.now)) (no_item_left c.args.items.now c.loop-item.item-index c.loop-item-test.false) c.loop-item.invariant
