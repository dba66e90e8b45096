use Rattle.std.proofs.Common.{◌≡◌, drop}
use Rattle.ice_types.specs.declared.kind.TypeRef.{TypeRef}
use Rattle.graph_arena.specs.Seen.{view_present}
use Rattle.value_parts.specs.Shapes.{with_tag}
use Rattle.graph_json.specs.CanonicalValues.{Write}
use Rattle.graph_json.specs.Contents.{options_noted}
use Rattle.graph_json.specs.Printing.{row_noted}
use Rattle.graph_json.proofs.rows.put_optional.Given as goal

abbrev pub invariant-loop-option : goal.invariant-loop-option
invariant-loop-option l = (write : TypeRef → Write) → options_noted write (row_noted write l.row.entries) (with_tag l.members) (view_present (drop l.option-index l.options))
    ≡ options_noted write (row_noted write l.initial.row.entries) (with_tag l.members) (view_present l.options)
