use Rattle.std.proofs.Common.{sym}
use Rattle.ice_encoding.specs.Flags.{flags_of}
use Rattle.value_parts.specs.SliceIds.{id_of}
use Rattle.slice_heads.specs.Seen.{view_before}
use Rattle.instance_reading.specs.Slices.{refer_by}
use Rattle.instance_reading.proofs.Heads.{begins_from, class_refused}
use Rattle.instance_reading.proofs.slice.begin_slice.Goals as goal

pub returns-in-Ok-test_class-clause-slice : goal.returns-in-Ok-test_class-clause-slice
returns-in-Ok-test_class-clause-slice c =
    let tests = c.in-Ok-test_class.ensures in
    begins_from c.args.sort c.args.schema.now (view_before c.args.before) (flags_of c.in-Ok.flags) (id_of c.in-Ok-take_id.id) c.class_in-class.result c.args.arena.now c.take_id.new.arena c.args.cursor.now c.take_flags.new.cursor c.take_id.new.cursor c.open_slice.new.cursor
    c.in-Ok.ensures c.in-Ok-take_id.ensures.id (sym c.class_in-class.ensures) tests.0 tests.1 tests.2 c.open_slice.result c.open_slice.ensures

pub returns-in-Err-test_class-clause-slice : goal.returns-in-Err-test_class-clause-slice
returns-in-Err-test_class-clause-slice c inside steps =
    class_refused (refer_by inside) c.args.schema.now steps c.args.sort (view_before c.args.before) (flags_of c.in-Ok.flags) (id_of c.in-Ok-take_id.id) c.class_in-class.result c.args.arena.now c.take_id.new.arena c.args.cursor.now c.take_flags.new.cursor c.take_id.new.cursor
    c.in-Err-test_class.fault c.in-Ok.ensures c.in-Ok-take_id.ensures.id (sym c.class_in-class.ensures) (rw (c.place-flags_place.ensures, c.place-id_place.ensures) at c.in-Err-test_class.ensures)
