use Rattle.std.proofs.Common.{ℕ, List, Err, subst}
use Rattle.ice_relay.specs.Dumping.{DumpsTo}
use Rattle.node_commands.proofs.Carrying.{dump_done, dump_fails}
use Rattle.node_commands.proofs.dump.dump.Goals as goal

pub returns-in-Ok-dump_to-clause-came : goal.returns-in-Ok-dump_to-clause-came
returns-in-Ok-dump_to-clause-came g c =
    dump_done c.args.schema.now c.args.kind (g.S.Source.left c.args.source.now) (g.S.Source.left c.read_input.new.source) c.in-Ok.input.items c.in-Ok.ensures.read (g.S.Source.failures c.args.source.now) (g.S.Source.failures c.read_input.new.source) c.in-Ok.ensures.count
    (g.K.Sink.failures c.args.sink.now) (g.K.Sink.failures c.dump_to.new.sink) (g.K.Sink.taken c.args.sink.now) (g.K.Sink.taken c.dump_to.new.sink) c.in-Ok-dump_to.field-0 (rw c.as_slice.ensures.value at c.in-Ok-dump_to.ensures)

pub returns-clause-came : goal.returns-clause-came
returns-clause-came g c =
    let writes = g.K.Sink.failures c.args.sink.now in
    let later = g.K.Sink.failures c.dump_to.new.sink in
    let old = g.K.Sink.taken c.args.sink.now in
    let new = g.K.Sink.taken c.dump_to.new.sink in
    let fails : DumpsTo c.args.schema.now c.args.kind c.in-Ok.input.items old new writes later (Err c.in-Err-dump_to.fault) =
    subst (λ (x : List ℕ). DumpsTo c.args.schema.now c.args.kind x old new writes later (Err c.in-Err-dump_to.fault)) c.as_slice.ensures.value c.in-Err-dump_to.ensures in
    dump_fails c.args.schema.now c.args.kind (g.S.Source.left c.args.source.now) (g.S.Source.left c.read_input.new.source) c.in-Ok.input.items c.in-Ok.ensures.read (g.S.Source.failures c.args.source.now) (g.S.Source.failures c.read_input.new.source) c.in-Ok.ensures.count
    writes later old new c.in-Err-dump_to.fault c.from-in-Err-dump_to.result c.from-in-Err-dump_to.ensures fails
