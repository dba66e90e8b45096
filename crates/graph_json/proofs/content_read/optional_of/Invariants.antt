use Rattle.std.proofs.Common.{◌≡◌, [], drop}
use Rattle.graph_json.specs.View.{members_view}
use Rattle.graph_arena.specs.Seen.{view_present}
use Rattle.value_parts.specs.Shapes.{with_tag}
use Rattle.graph_json.specs.ReadingValues.{noted_value}
use Rattle.graph_json.specs.Contents.{options_of}
use Rattle.graph_json.proofs.content_read.optional_of.Given as goal

-- the values so far, and those that are still read
abbrev pub invariant-loop-member : goal.invariant-loop-member
invariant-loop-member l =
    options_of (noted_value l.schema) (with_tag (drop l.member-index l.members)) (members_view l.found.entries.now) (view_present l.values.entries)
    ≡ options_of (noted_value l.schema) (with_tag l.members) (members_view l.found.entries.now) []
