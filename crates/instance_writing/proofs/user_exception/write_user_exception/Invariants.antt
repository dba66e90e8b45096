use Rattle.std.proofs.Common.{◌≡◌, length}
use Rattle.ice_encoding.specs.Visiting.{most}
use Rattle.ice_encoding.specs.CanonicalGraph.{blank}
use Rattle.ice_encoding.specs.Exceptions.{of_exceptions}
use Rattle.ice_encoding.specs.UserExceptionWritten.{user_exception_as}
use Rattle.graph_arena.specs.Seen.{view_slices}
use Rattle.value_writing.specs.Putting.{onto}
use Rattle.value_parts.specs.declared.sliced_type.SlicedType.TheVariants.{Exception}
use Rattle.instance_writing.specs.Formats.{view_format}
use Rattle.instance_writing.specs.Opened.{refer_to}
use Rattle.instance_writing.specs.Pens.{room}
use Rattle.instance_writing.specs.Tabling.{no_names}
use Rattle.instance_writing.specs.Remains.{inside_at, instance_left, Fits}
use Rattle.instance_writing.proofs.user_exception.write_user_exception.Given as goal

abbrev pub invariant-loop-user_exception : goal.invariant-loop-user_exception
invariant-loop-user_exception l = record {
  left : onto (user_exception_as l.schema (refer_to (inside_at l.schema (view_format l.fn.format) l.graph most)) (view_format l.fn.format) (view_slices l.slices)) (blank, l.fn.out.items)
      ≡ instance_left Exception l.schema (view_format l.fn.format) (inside_at l.schema (view_format l.fn.format) l.graph most) l.user_exception (l.pen, l.out.items);
  fits : Fits (of_exceptions l.schema) (length l.graph.instances) l.user_exception l.out.items;
  desk : l.desk.table ≡ no_names (length l.graph.instances);
}

abbrev pub decreases-loop-user_exception : goal.decreases-loop-user_exception
decreases-loop-user_exception l = room l.pen
