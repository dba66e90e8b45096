use Rattle.std.proofs.Common.{◌≡◌, ◌+◌, [], drop, ap, ◌∙◌}
use Rattle.graph_json.specs.View.{view as json_view, members_view}
use Rattle.graph_arena.specs.View.{view}
use Rattle.graph_arena.specs.Seen.{view_present}
use Rattle.value_parts.specs.Shapes.{with_tag}
use Rattle.graph_json.specs.ReadingValues.{noted_value}
use Rattle.graph_json.specs.Contents.{put_at, options_of}
use Rattle.graph_json.proofs.WalkingValues.{some_is, member_left}
use Rattle.graph_json.proofs.ContentWalking.{options_go_on, present_put}
use Rattle.graph_json.proofs.content_read.optional_of.Goals as goal

pub loop-member-preserved : goal.loop-member-preserved
loop-member-preserved c =
    let of = noted_value c.args.schema.now in
    let found = members_view c.args.found.entries.now in
    let put : view_present c.insert.new.self.entries ≡ put_at c.in-Some.tag (view c.in-Some-2.value) (view_present c.loop-member.values.entries) =
    ap view_present c.in_ok-insert.ensures.entries ∙ present_put c.loop-member.values.entries c.in-Some.tag c.in-Some-2.value in
    let left = member_left c.args.members.now c.loop-member.member-index c.member-item.result c.loop-member-test.true c.member-item.is in
    rw put (options_go_on of (drop c.loop-member.member-index c.args.members.now) (drop (c.loop-member.member-index + 1) c.args.members.now) c.member-item.result left found (view_present c.loop-member.values.entries)
    (options_of of (with_tag c.args.members.now) found []) c.loop-member.invariant c.in-Some.tag (json_view c.in-Some-named.json.now) (view c.in-Some-2.value) c.in-Some.is (rw (← c.as_str.ensures) c.in-Some-named.ensures)
    (some_is view c.in_ok-value.field-0 c.in-Some-2.value _ c.in-Some-2.is c.in_ok-value.ensures))
