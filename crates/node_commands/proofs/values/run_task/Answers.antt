use Rattle.std.proofs.Common.{[], refl}
use Rattle.node_commands.specs.Outside.{counts}
use Rattle.node_commands.specs.Outcomes.{answer_of}
use Rattle.node_commands.proofs.Answering.{outputs_nothing}
use Rattle.node_commands.proofs.Carrying.{task_causes, task_takes}
use Rattle.node_commands.proofs.Finding.{task_untyped, untyped_takes}
use Rattle.node_commands.proofs.values.run_task.Goals.{in-Ok-named_type, in-Err-named_type}
use Rattle.node_commands.proofs.values.run_task.Goals as goal

pub returns : goal.returns
returns g c =
    let files = g.H.Shelf.files c.args.shelf.now in
    let left = g.S.Source.left c.args.source.now in
    let task = c.args.task in
    let file = c.args.file.now in
    let word = c.args.word.now in
    let schema = c.in-Ok.schema in
    let shelf = g.H.Shelf.failures c.args.shelf.now in
    let after = g.H.Shelf.failures c.load_schema.new.shelf in
    let reads = g.S.Source.failures c.args.source.now in
    let writes = g.K.Sink.failures c.args.sink.now in
    elim c.match-named_type.branch [
      | in-Ok-named_type w ↦
          let kind = w.in-Ok-named_type.kind in
          let now = g.S.Source.failures w.run_with-outcome.new.source in
          let later = g.K.Sink.failures w.run_with-outcome.new.sink in
          let came = w.run_with-outcome.ensures.came in
          let answer = answer_of w.run_with-outcome.result came.0 in
          rw (w.outcome-is, w.source-is, w.sink-is) (
            came.0,
            task_causes files left file word schema kind c.in-Ok.ensures.found.0 w.in-Ok-named_type.ensures task shelf after reads now writes later answer c.in-Ok.ensures.found.1 came.1,
            task_takes left task file word schema kind (counts after reads writes) (counts after now later) left (g.S.Source.left w.run_with-outcome.new.source) w.run_with-outcome.ensures.taken answer (came.1 after),
            came.2,
          )
      | in-Err-named_type w ↦
          let answer = answer_of w.in-Err-named_type.outcome [] in
          rw (w.outcome-is, w.source-is, w.sink-is) (
            [],
            task_untyped files left task file word schema (counts shelf reads writes) (counts after reads writes) answer c.in-Ok.ensures.found.0 (c.in-Ok.ensures.found.1, refl, refl) w.in-Err-named_type.ensures,
            untyped_takes task file word schema left answer w.in-Err-named_type.ensures,
            outputs_nothing (g.K.Sink.taken c.args.sink.now) w.in-Err-named_type.outcome,
          )
    ]
