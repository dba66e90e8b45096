use Rattle.std.proofs.Common.{List, subst}
use Rattle.ice_encoding.specs.Exceptions.{of_exceptions}
use Rattle.ice_encoding.specs.TypedGraph.{IsInstance, RefersIn}
use Rattle.ice_encoding.specs.UserExceptionTyped.{HaveTypeIds}
use Rattle.graph_arena.specs.Seen.{view_slices}
use Rattle.graph_arena.specs.declared.instance.Slice.{Slice}
use Rattle.class_slices.specs.Seen.{view_user_exception}
use Rattle.class_slices.proofs.Named.{own-below}
use Rattle.class_slices.proofs.exception_writing.write_exception.Goals as goal

pub rooted-requires : goal.rooted-requires
rooted-requires c =
    let t = c.args.schema.now in
    own-below t (view_user_exception c.args.user_exception)
    (subst (λ (l : List Slice). IsInstance (of_exceptions t) (RefersIn t c.args.user_exception.graph.instances) (view_slices l) × HaveTypeIds (view_slices l)) c.as_slice.ensures (c.is_user_exception.ensures.0 c.if-not-is_user_exception.false))
