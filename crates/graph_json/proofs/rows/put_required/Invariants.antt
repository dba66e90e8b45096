use Rattle.std.proofs.Common.{◌≡◌, drop}
use Rattle.ice_types.specs.declared.kind.TypeRef.{TypeRef}
use Rattle.graph_arena.specs.View.{view_all}
use Rattle.value_parts.specs.Shapes.{without_tag}
use Rattle.graph_json.specs.CanonicalValues.{Write, members_noted}
use Rattle.graph_json.specs.Printing.{row_noted}
use Rattle.graph_json.proofs.rows.put_required.Given as goal

abbrev pub invariant-loop-member : goal.invariant-loop-member
invariant-loop-member l = (write : TypeRef → Write) → members_noted write (row_noted write l.row.entries) (without_tag (drop l.member-index l.members)) (view_all (drop l.at l.values))
    ≡ members_noted write (row_noted write l.initial.row.entries) (without_tag l.members) (view_all l.values)
