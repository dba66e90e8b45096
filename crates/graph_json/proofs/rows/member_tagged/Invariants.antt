use Rattle.std.proofs.Common.{◌≡◌, drop}
use Rattle.value_parts.specs.Shapes.{with_tag}
use Rattle.graph_json.specs.Contents.{member_tagged}
use Rattle.graph_json.proofs.rows.member_tagged.Given as goal

abbrev pub invariant-loop-member : goal.invariant-loop-member
invariant-loop-member l = member_tagged l.tag (with_tag l.members) ≡ member_tagged l.tag (with_tag (drop l.member-index l.members))
