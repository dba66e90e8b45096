use Rattle.std.proofs.Common.{◌≡◌, ◌+◌, drop, sym, ◌∙◌}
use Rattle.std.proofs.lemmas.List.{map_push}
use Rattle.graph_json.specs.View.{members_view}
use Rattle.ice_encoding.specs.Tree.{none, tree}
use Rattle.graph_arena.specs.View.{view, view_all}
use Rattle.value_parts.specs.Shapes.{without_tag}
use Rattle.graph_json.specs.ReadingValues.{members_of, noted_value}
use Rattle.graph_json.proofs.WalkingValues.{join, trees-push, some_is, member_left, no_member_left}
use Rattle.graph_json.proofs.ContentWalking.{required_goes_on, required_done}
use Rattle.graph_json.proofs.content_read.required_of.Goals as goal

pub loop-member-preserved : goal.loop-member-preserved
loop-member-preserved c =
    let of = noted_value c.args.schema.now in
    let found = members_view c.args.found.entries.now in
    let pushed : view_all c.push.new.self ≡ join (view_all c.loop-member.values) (tree (view c.in-Some.value) none) = rw (c.in_ok-push.ensures.ok, map_push view c.loop-member.values c.in-Some.value) (trees-push _ _) in
    let left = member_left c.args.members.now c.loop-member.member-index c.member-item.result c.loop-member-test.true c.member-item.is in
    rw pushed (required_goes_on of (drop c.loop-member.member-index c.args.members.now) (drop (c.loop-member.member-index + 1) c.args.members.now) c.member-item.result left found (view_all c.loop-member.values)
    (members_of of (without_tag c.args.members.now) found) c.loop-member.invariant (view c.in-Some.value) (sym c.is_some.ensures ∙ c.if-is_some.false) (some_is view c.in_ok-value.field-0 c.in-Some.value _ c.in-Some.is c.in_ok-value.ensures))

pub returns : goal.returns
returns c =
    let of = noted_value c.args.schema.now in
    let found = members_view c.args.found.entries.now in
    required_done of (drop c.loop-member.member-index c.args.members.now) found (view_all c.loop-member.values) (members_of of (without_tag c.args.members.now) found) (no_member_left c.args.members.now c.loop-member.member-index c.loop-member-test.false) c.loop-member.invariant
