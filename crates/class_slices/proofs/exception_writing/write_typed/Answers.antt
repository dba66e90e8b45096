use Rattle.std.proofs.Common.{[], ap, refl, sym, subst}
use Rattle.graph_arena.specs.Arena.{IsSound}
use Rattle.graph_arena.specs.Seen.{view_slices}
use Rattle.instance_writing.specs.Formats.{view_format}
use Rattle.instance_writing.specs.Writable.{UserExceptionCanBeWritten}
use Rattle.class_slices.specs.Enclosing.{Closes, unsized}
use Rattle.class_slices.specs.Seen.{view_user_exception}
use Rattle.class_slices.proofs.Named.{form-writable}
use Rattle.class_slices.proofs.Written.{allowed, closed, too-long}
use Rattle.class_slices.proofs.exception_writing.write_typed.Goals as goal

pub begun_with-begun-requires : goal.begun_with-begun-requires
begun_with-begun-requires c =
    subst (UserExceptionCanBeWritten c.args.schema.now) (sym c.in_ok-numbered.ensures)
    (form-writable (view_user_exception c.args.user_exception) (subst IsSound c.requires.rooted c.len.ensures.sound) c.args.schema.now c.requires.typed)

pub returns-in-Ok-end_encaps : goal.returns-in-Ok-end_encaps
returns-in-Ok-end_encaps c =
    closed c.args.schema.now (view_format c.args.format) (view_user_exception c.args.user_exception) c.requires.typed
    (allowed c.args.schema.now (view_user_exception c.args.user_exception) c.requires.typed c.args.user_exception.graph c.requires.rooted c.len.ensures.sound (view_format c.args.format) (view_slices c.as_slice.result.now) (ap view_slices c.as_slice.ensures) c.in-Ok.ensures)
    c.args.limit (view_user_exception c.in_ok-numbered.numbered) (unsized []) c.in_ok-out.out.items c.in-Ok-end_encaps.out
    c.in_ok-numbered.ensures refl c.in_ok-out.ensures
    (subst (Closes c.in_ok-out.out.items c.args.limit) c.in-Ok-end_encaps.is c.end_encaps.ensures)

pub returns-in-Err-end_encaps : goal.returns-in-Err-end_encaps
returns-in-Err-end_encaps c =
    too-long c.args.schema.now (view_format c.args.format) (view_user_exception c.args.user_exception) c.requires.typed
    (allowed c.args.schema.now (view_user_exception c.args.user_exception) c.requires.typed c.args.user_exception.graph c.requires.rooted c.len.ensures.sound (view_format c.args.format) (view_slices c.as_slice.result.now) (ap view_slices c.as_slice.ensures) c.in-Ok.ensures)
    c.args.limit (view_user_exception c.in_ok-numbered.numbered) (unsized []) c.in_ok-out.out.items c.in-Err-end_encaps.length
    c.in_ok-numbered.ensures refl c.in_ok-out.ensures
    (subst (Closes c.in_ok-out.out.items c.args.limit) c.in-Err-end_encaps.is c.end_encaps.ensures)
