use Rattle.std.proofs.Common.{◌≡◌, drop}
use Rattle.ice_types.specs.declared.kind.TypeRef.{TypeRef}
use Rattle.graph_arena.specs.View.{view_all}
use Rattle.graph_json.specs.CanonicalValues.{Write, members_noted}
use Rattle.graph_json.specs.Printing.{row_noted}
use Rattle.graph_json.proofs.rows.put_members.Given as goal

abbrev pub invariant-loop-at : goal.invariant-loop-at
invariant-loop-at l = (write : TypeRef → Write) → members_noted write (row_noted write l.row.entries) (drop l.at l.members) (view_all (drop l.at l.values))
    ≡ members_noted write (row_noted write l.initial.row.entries) l.members (view_all l.values)
