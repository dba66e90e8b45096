use Rattle.std.proofs.Common.{◌++◌, ◌∙◌, List, sym, ap, subst}
use Rattle.ice_encoding.specs.UserExceptionWritten.{user_exception_bytes}
use Rattle.graph_arena.specs.Seen.{view_slices}
use Rattle.graph_arena.specs.declared.instance.Slice.{Slice}
use Rattle.instance_writing.specs.Formats.{view_format}
use Rattle.instance_writing.specs.Writable.{UserExceptionCanBeWritten, user_exception_of}
use Rattle.class_slices.proofs.exception_writing.begun_with.Goals as goal

pub write_user_exception-requires : goal.write_user_exception-requires
write_user_exception-requires c =
    subst (UserExceptionCanBeWritten c.args.schema.now) (sym (ap (λ (l : List Slice). user_exception_of (view_slices l) c.args.numbered.now.graph) c.as_slice.ensures)) c.requires

pub returns : goal.returns
returns c =
    c.in_ok-write_user_exception.ensures
    ∙ (λ i. c.in_ok-out.ensures i ++ user_exception_bytes c.args.schema.now (view_format c.args.format) (user_exception_of (view_slices (c.as_slice.ensures i)) c.args.numbered.now.graph))
