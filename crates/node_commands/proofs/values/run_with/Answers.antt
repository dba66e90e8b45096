use Rattle.node_commands.specs.declared.words.Task.TheVariants as tasks
use Rattle.node_commands.proofs.Carrying.{found_ends}
use Rattle.node_commands.proofs.values.run_with.Goals as goal

pub returns-in-Same-clause-came : goal.returns-in-Same-clause-came
returns-in-Same-clause-came g c =
    rw c.in-Same.is (found_ends tasks.Same (g.S.Source.left c.args.source.now) c.args.schema.now c.args.kind (g.S.Source.failures c.args.source.now) (g.S.Source.failures c.same.new.source) (g.K.Sink.failures c.args.sink.now) (g.K.Sink.failures c.print_or_tell-in-Same.new.sink)
    (g.K.Sink.taken c.args.sink.now) (g.K.Sink.taken c.print_or_tell-in-Same.new.sink) c.same.result c.print_or_tell-in-Same.result c.same.ensures.found c.print_or_tell-in-Same.ensures)

pub returns-in-Dump-clause-came : goal.returns-in-Dump-clause-came
returns-in-Dump-clause-came g c = rw c.in-Dump.is c.dump.ensures.came

pub returns-in-Encode-clause-came : goal.returns-in-Encode-clause-came
returns-in-Encode-clause-came g c =
    rw c.in-Encode.is (found_ends (tasks.Encode c.in-Encode.format) (g.S.Source.left c.args.source.now) c.args.schema.now c.args.kind (g.S.Source.failures c.args.source.now) (g.S.Source.failures c.encode.new.source) (g.K.Sink.failures c.args.sink.now) (g.K.Sink.failures c.print_or_tell-in-Encode.new.sink)
    (g.K.Sink.taken c.args.sink.now) (g.K.Sink.taken c.print_or_tell-in-Encode.new.sink) c.encode.result c.print_or_tell-in-Encode.result c.encode.ensures.found c.print_or_tell-in-Encode.ensures)
