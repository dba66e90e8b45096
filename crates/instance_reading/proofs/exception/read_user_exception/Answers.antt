use Rattle.std.proofs.Common.{Ok, sym, ◌∙◌}
use Rattle.graph_arena.specs.Seen.{view_slices}
use Rattle.instance_reading.proofs.Wholes.{user_exception_fits, user_exception_longer, user_exception_misfits, user_exception_refused}
use Rattle.instance_reading.proofs.exception.read_user_exception.Goals as goal

pub returns-in-Err : goal.returns-in-Err
returns-in-Err c = user_exception_refused c.args.schema.now c.args.cursor.now c.in-Err.fault (rw c.new-arena.ensures at c.in-Err.ensures)

pub returns-in-Err-end : goal.returns-in-Err-end
returns-in-Err-end c =
    user_exception_longer c.args.schema.now c.args.cursor.now (view_slices c.in-Ok.slices) c.read_slices.new.arena c.read_slices.new.cursor (rw c.new-arena.ensures at c.in-Ok.ensures) c.in-Err-end.fault c.in-Err-end.ensures

pub returns-in-Ok-all_fit : goal.returns-in-Ok-all_fit
returns-in-Ok-all_fit c =
    user_exception_fits c.args.schema.now c.args.cursor.now (view_slices c.in-Ok.slices) c.read_slices.new.arena c.read_slices.new.cursor (rw c.new-arena.ensures at c.in-Ok.ensures) c.in-Ok-end.ensures c.in-Ok-all_fit.ensures
    ∙ (λ i. Ok (record { slices = view_slices c.in-Ok.slices; instances = sym c.into_instances.ensures i }, c.read_slices.new.cursor))

pub returns-in-Err-all_fit : goal.returns-in-Err-all_fit
returns-in-Err-all_fit c =
    user_exception_misfits c.args.schema.now c.args.cursor.now (view_slices c.in-Ok.slices) c.read_slices.new.arena c.read_slices.new.cursor (rw c.new-arena.ensures at c.in-Ok.ensures)
    c.in-Err-all_fit.fault c.in-Ok-end.ensures c.in-Err-all_fit.ensures
