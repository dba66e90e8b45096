use Rattle.std.proofs.Common.{◌∙◌, Ok, sym, ap, subst}
use Rattle.ice_encoding.specs.Flags.{all_slices}
use Rattle.ice_encoding.specs.Graph.{Graph}
use Rattle.ice_encoding.specs.UserExceptionTyped.{OfUserException}
use Rattle.graph_arena.specs.Seen.{view_content, view_slices}
use Rattle.instance_writing.specs.Writable.{user_exception_of}
use Rattle.instance_reading.specs.Stacked.{view_user_exception as view_read}
use Rattle.class_slices.proofs.Read.{read-is, with-roots}
use Rattle.class_slices.proofs.exception_reading.read_exception.Goals as goal

pub of-requires : goal.of-requires
of-requires c =
    let h = read-is c.args.schema.now all_slices c.args.input.now c.new-cursor.result c.take_content.new.cursor (view_read c.in_ok-content.content) c.rules.ensures c.new-cursor.ensures c.left_are_bytes.ensures c.in_ok-content.ensures c.in-Ok.ensures in
    with-roots (view_read c.in_ok-content.content) (view_content c.none.result) c.none.ensures h.sound

pub returns-in-Ok-clause-reads : goal.returns-in-Ok-clause-reads
returns-in-Ok-clause-reads c =
    let h = read-is c.args.schema.now all_slices c.args.input.now c.new-cursor.result c.take_content.new.cursor (view_read c.in_ok-content.content) c.rules.ensures c.new-cursor.ensures c.left_are_bytes.ensures c.in_ok-content.ensures c.in-Ok.ensures in
    h.reads ∙ ap (λ (g : Graph). Ok (user_exception_of (view_slices c.in_ok-content.content.slices) g)) (sym c.of.ensures)

pub returns-in-Ok-clause-typed : goal.returns-in-Ok-clause-typed
returns-in-Ok-clause-typed c =
    let h = read-is c.args.schema.now all_slices c.args.input.now c.new-cursor.result c.take_content.new.cursor (view_read c.in_ok-content.content) c.rules.ensures c.new-cursor.ensures c.left_are_bytes.ensures c.in_ok-content.ensures c.in-Ok.ensures in
    subst (λ (g : Graph). OfUserException c.args.schema.now (user_exception_of (view_slices c.in_ok-content.content.slices) g)) (sym c.of.ensures) h.typed
