use Rattle.std.proofs.Common.{◌≡◌, drop, option_map}
use Rattle.graph_json.specs.View.{members_view}
use Rattle.graph_arena.specs.View.{view_all}
use Rattle.value_parts.specs.Shapes.{without_tag}
use Rattle.graph_json.specs.ReadingValues.{members_of, noted_value}
use Rattle.graph_json.proofs.WalkingValues.{join}
use Rattle.graph_json.proofs.content_read.required_of.Given as goal

-- the values so far, and those that are still read
abbrev pub invariant-loop-member : goal.invariant-loop-member
invariant-loop-member l =
    option_map (join (view_all l.values)) (members_of (noted_value l.schema) (without_tag (drop l.member-index l.members)) (members_view l.found.entries.now))
    ≡ members_of (noted_value l.schema) (without_tag l.members) (members_view l.found.entries.now)
