use Rattle.std.proofs.Common.{◌∙◌, List, [], length, ap}
use Rattle.ice_encoding.specs.Names.{instance_names}
use Rattle.ice_encoding.specs.OptionalMembers.{with_optional}
use Rattle.ice_encoding.specs.UserExceptionWritten.{references_to}
use Rattle.graph_arena.specs.Seen.{view_content, view_slices}
use Rattle.graph_arena.specs.declared.instance.Slice.{Slice}
use Rattle.class_slices.specs.Seen.{view_user_exception}
use Rattle.class_slices.proofs.Named.{roots-fit}
use Rattle.class_slices.proofs.naming.rooted.Goals as goal

pub set_roots-requires : goal.set_roots-requires
set_roots-requires c =
    roots-fit (length c.args.user_exception.graph.instances) (view_user_exception c.args.user_exception) (view_content c.in-Ok.roots)
    (c.in-Ok.ensures ∙ ap (λ (l : List Slice). with_optional (references_to (instance_names (view_slices l))) []) c.as_slice.ensures) c.requires
