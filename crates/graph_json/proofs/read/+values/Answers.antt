use Rattle.std.proofs.Common.{◌≡◌, ℕ, suc, ◌+◌, ◌-◌, drop, length, IfOk, option_map, subst, arith}
use Rattle.std.proofs.lemmas.List.{map_push}
use Rattle.graph_json.specs.View.{view as json_view, items_view, members_view}
use Rattle.ice_encoding.specs.Tree.{none, tree, no_entry, sequence, dictionary}
use Rattle.graph_arena.specs.View.{view, view_all}
use Rattle.graph_json.specs.ReadingValues.{value_levels, each_of, members_of, pairs_of}
use Rattle.graph_json.proofs.WalkingValues.{join, trees-push, some_is, item_left, no_item_left, each_goes_on, each_done, member_left, no_member_left, members_go_on, members_done}
use Rattle.graph_json.proofs.Sizes.{few_above, seq_is, dict_is, struct_is, struct_is_not}
use Rattle.graph_json.proofs.read.+values.Goals as goal

pub read_level-returns : goal.read_level-returns
read_level-returns t c =
    let more : suc (c.args.levels - 1) ≡ c.args.levels = omega arith in
    subst (λ (n : ℕ). IfOk c.read_parts.result (λ o. option_map view o ≡ value_levels c.args.schema.now n c.args.kind (json_view c.args.json.now))) more c.read_parts.ensures

pub read_items-returns-in-Some : goal.read_items-returns-in-Some
read_items-returns-in-Some t c =
    seq_is (each_of (value_levels c.args.schema.now c.args.levels c.args.kind)) c.args.items.now.items c.as_slice.result.now c.len.result c.in_ok-items.field-0 c.in-Some.items c.in-Some.is c.as_slice.ensures.value (omega arith) c.if-len-lt2147483648.true c.in_ok-items.ensures

pub read_items-returns-else-len-lt2147483648 : goal.read_items-returns-else-len-lt2147483648
read_items-returns-else-len-lt2147483648 t c =
    few_above (λ ds. option_map sequence (each_of (value_levels c.args.schema.now c.args.levels c.args.kind) ds)) c.args.items.now.items c.len.result (omega arith) c.if-len-lt2147483648.false

pub read_entries-returns-in-Some : goal.read_entries-returns-in-Some
read_entries-returns-in-Some t c =
    dict_is (pairs_of (value_levels c.args.schema.now c.args.levels c.args.decl.now.key) (value_levels c.args.schema.now c.args.levels c.args.decl.now.value) no_entry) c.args.items.now.items c.as_slice.result.now c.len.result c.in_ok-pairs.field-0 c.in-Some.pairs c.in-Some.is c.as_slice.ensures.value (omega arith) c.if-len-lt2147483648.true c.in_ok-pairs.ensures

pub read_entries-returns-else-len-lt2147483648 :
    goal.read_entries-returns-else-len-lt2147483648
read_entries-returns-else-len-lt2147483648 t c =
    few_above (λ ds. option_map dictionary (pairs_of (value_levels c.args.schema.now c.args.levels c.args.decl.now.key) (value_levels c.args.schema.now c.args.levels c.args.decl.now.value) no_entry ds)) c.args.items.now.items c.len.result (omega arith) c.if-len-lt2147483648.false

pub read_whole-returns-in-Some : goal.read_whole-returns-in-Some
read_whole-returns-in-Some t c =
    struct_is (members_of (value_levels c.args.schema.now c.args.levels) c.args.members.now) c.args.found.entries.now c.len.result (length c.args.members.now) c.in_ok-items.field-0 c.in-Some.items c.in-Some.is c.len.ensures (omega arith) c.in_ok-items.ensures

pub read_whole-returns-else-len-members : goal.read_whole-returns-else-len-members
read_whole-returns-else-len-members t c =
    struct_is_not (members_of (value_levels c.args.schema.now c.args.levels) c.args.members.now) c.args.found.entries.now c.len.result (length c.args.members.now) c.len.ensures (λ e. absurd (omega (arith, e)))

pub read_each-loop-item-preserved : goal.read_each-loop-item-preserved
read_each-loop-item-preserved t c =
    let of = value_levels c.args.schema.now c.args.levels c.args.kind in
    let pushed : view_all c.push.new.self ≡ join (view_all c.loop-item.values) (tree (view c.in-Some.value) none) = rw (c.in_ok-push.ensures.ok, map_push view c.loop-item.values c.in-Some.value) (trees-push _ _) in
    let left = item_left c.args.items.now c.loop-item.item-index c.item-item.result c.loop-item-test.true c.item-item.is in
    rw pushed (each_goes_on of (items_view (drop c.loop-item.item-index c.args.items.now)) (items_view (drop (c.loop-item.item-index + 1) c.args.items.now)) (json_view c.item-item.result) left (view_all c.loop-item.values)
    (each_of of (items_view c.args.items.now)) c.loop-item.invariant (view c.in-Some.value) (some_is view c.in_ok-value.field-0 c.in-Some.value _ c.in-Some.is c.in_ok-value.ensures))

pub read_each-returns : goal.read_each-returns
read_each-returns t c =
    let of = value_levels c.args.schema.now c.args.levels c.args.kind in
    each_done of (items_view (drop c.loop-item.item-index c.args.items.now)) (view_all c.loop-item.values) (each_of of (items_view c.args.items.now)) (no_item_left c.args.items.now c.loop-item.item-index c.loop-item-test.false) c.loop-item.invariant

pub read_members-loop-member-preserved : goal.read_members-loop-member-preserved
read_members-loop-member-preserved t c =
    let of = value_levels c.args.schema.now c.args.levels in
    let found = members_view c.args.found.entries.now in
    let pushed : view_all c.push.new.self ≡ join (view_all c.loop-member.values) (tree (view c.in-Some-2.value) none) = rw (c.in_ok-push.ensures.ok, map_push view c.loop-member.values c.in-Some-2.value) (trees-push _ _) in
    let left = member_left c.args.members.now c.loop-member.member-index c.member-item.result c.loop-member-test.true c.member-item.is in
    rw pushed (members_go_on of (drop c.loop-member.member-index c.args.members.now) (drop (c.loop-member.member-index + 1) c.args.members.now) c.member-item.result left found (view_all c.loop-member.values)
    (members_of of c.args.members.now found) c.loop-member.invariant (json_view c.in-Some.json.now) (view c.in-Some-2.value) (rw (← c.as_str.ensures) c.in-Some.ensures) (some_is view c.in_ok-value.field-0 c.in-Some-2.value _ c.in-Some-2.is c.in_ok-value.ensures))

pub read_members-returns : goal.read_members-returns
read_members-returns t c =
    let of = value_levels c.args.schema.now c.args.levels in
    members_done of (drop c.loop-member.member-index c.args.members.now) (members_view c.args.found.entries.now) (view_all c.loop-member.values) (members_of of c.args.members.now (members_view c.args.found.entries.now)) (no_member_left c.args.members.now c.loop-member.member-index c.loop-member-test.false) c.loop-member.invariant
