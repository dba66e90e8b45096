use Rattle.node_commands.proofs.Telling.{dump_causes, dump_takes, dump_outputs}
use Rattle.node_commands.proofs.messages.messages.Goals as goal

pub returns : goal.returns
returns g c =
    let told = c.dump_messages.ensures.told in
    let lines = told.1 in
    let before = g.S.Source.left c.args.source.now in
    let left = g.S.Source.left c.dump_messages.new.source in
    rw c.from.ensures (
      lines,
      λ files shelf. dump_causes files shelf (g.S.Source.failures c.args.source.now) (g.K.Sink.failures c.args.sink.now) (g.S.Source.failures c.dump_messages.new.source) (g.K.Sink.failures c.dump_messages.new.sink)
          before left told.0 lines c.dump_messages.result told.2 told.3 c.dump_messages.ensures.reads c.dump_messages.ensures.writes,
      dump_takes before left lines c.dump_messages.result c.dump_messages.ensures.frugal,
      dump_outputs (g.K.Sink.taken c.args.sink.now) (g.K.Sink.taken c.dump_messages.new.sink) lines c.dump_messages.result told.4,
    )
