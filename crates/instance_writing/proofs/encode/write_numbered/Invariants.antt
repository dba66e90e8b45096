use Rattle.std.proofs.Common.{◌≡◌, length}
use Rattle.ice_encoding.specs.Pausing.{written_in_place}
use Rattle.ice_encoding.specs.OptionalMembers.{shape_of}
use Rattle.ice_encoding.specs.Visiting.{most}
use Rattle.ice_encoding.specs.Members.{written_content}
use Rattle.ice_encoding.specs.CanonicalGraph.{blank}
use Rattle.value_writing.specs.Putting.{onto}
use Rattle.value_writing.specs.WritingMembers.{remaining, members_left, RemainingFits}
use Rattle.instance_writing.specs.Formats.{view_format}
use Rattle.instance_writing.specs.Pens.{put_counted, room}
use Rattle.instance_writing.specs.Tabling.{no_names}
use Rattle.instance_writing.specs.Remains.{inside_at}
use Rattle.instance_writing.proofs.encode.write_numbered.Given as goal

abbrev pub invariant-loop-roots : goal.invariant-loop-roots
invariant-loop-roots l = record {
  left : onto (written_content (written_in_place put_counted (inside_at l.schema (view_format l.fn.format) l.graph most)) l.schema (shape_of l.optional) l.graph.roots) (blank, l.fn.out.items)
      ≡ members_left put_counted (inside_at l.schema (view_format l.fn.format) l.graph most) l.schema l.optional (remaining l.roots) (l.pen, l.out.items);
  fits : RemainingFits (remaining l.roots) l.out.items;
  desk : l.desk.table ≡ no_names (length l.graph.instances);
}

abbrev pub decreases-loop-roots : goal.decreases-loop-roots
decreases-loop-roots l = room l.pen
