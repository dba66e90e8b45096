use Rattle.std.proofs.Common.{Ok, sym, ◌∙◌}
use Rattle.value_parts.specs.Shapes.{shape_seen}
use Rattle.graph_arena.specs.Seen.{view_content}
use Rattle.instance_reading.proofs.Wholes.{graph_fits, graph_misfits, graph_refused}
use Rattle.instance_reading.proofs.decoder.read_content.Goals as goal

pub returns-in-Err : goal.returns-in-Err
returns-in-Err c = graph_refused c.args.schema.now (shape_seen c.args.fields) c.args.cursor.now c.in-Err.fault (rw c.new-arena.ensures at c.in-Err.ensures)

pub returns-in-Ok-all_fit : goal.returns-in-Ok-all_fit
returns-in-Ok-all_fit c =
    graph_fits c.args.schema.now (shape_seen c.args.fields) c.args.cursor.now (view_content c.in-Ok.roots) c.read_roots.new.arena c.read_roots.new.cursor (rw c.new-arena.ensures at c.in-Ok.ensures) c.in-Ok-all_fit.ensures
    ∙ (λ i. Ok (record { roots = view_content c.in-Ok.roots; instances = sym c.into_instances.ensures i }, c.read_roots.new.cursor))

pub returns-in-Err-all_fit : goal.returns-in-Err-all_fit
returns-in-Err-all_fit c =
    graph_misfits c.args.schema.now (shape_seen c.args.fields) c.args.cursor.now (view_content c.in-Ok.roots) c.read_roots.new.arena c.read_roots.new.cursor (rw c.new-arena.ensures at c.in-Ok.ensures)
    c.in-Err-all_fit.fault c.in-Err-all_fit.ensures
