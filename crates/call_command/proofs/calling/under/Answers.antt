use Rattle.std.proofs.Common.{inl}
use Rattle.std.proofs.lemmas.Result.{err_from_is_err_and}
use Rattle.node_commands.specs.Outside.{counts}
use Rattle.node_commands.proofs.Keeping.{keeps_itself}
use Rattle.call_command.specs.Words.{seen}
use Rattle.call_command.specs.Operations.{found_seen}
use Rattle.call_command.specs.Endings.{ended_of}
use Rattle.call_command.specs.Rounds.{net_seen}
use Rattle.call_command.specs.Steps.{FoundDecides, FoundWants, SchemaDecides, SchemaWants}
use Rattle.call_command.proofs.Stepping.{no_interface, out_of_memory, schema_decides, schema_wants, comes_so, takes_so}
use Rattle.call_command.proofs.calling.under.Goals as goal

pub returns-in_default-clause-comes : goal.returns-in_default-clause-comes
returns-in_default-clause-comes g c = λ shelf.
    no_interface (seen c.args.command) (g.S.Source.left c.args.source.now) c.args.callee.now c.args.schema.now shelf (g.S.Source.failures c.args.source.now) (g.K.Sink.failures c.args.sink.now) (g.K.Sink.taken c.args.sink.now)
    (net_seen (g.N.Net.told c.args.net.now) (g.N.Net.failures c.args.net.now) (g.N.Net.listen_failures c.args.net.now)) c.in_default.ensures

pub returns-in_default-clause-taken : goal.returns-in_default-clause-taken
returns-in_default-clause-taken g c = inl (keeps_itself (g.S.Source.left c.args.source.now))

pub returns-in_err-object-clause-comes : goal.returns-in_err-object-clause-comes
returns-in_err-object-clause-comes g c = λ shelf.
    let failed = err_from_is_err_and c.from_residual.result c.from_residual.ensures.1 in
    rw (failed.1, failed.2) (out_of_memory (seen c.args.command) (g.S.Source.left c.args.source.now) c.args.callee.now c.args.schema.now shelf (g.S.Source.failures c.args.source.now) (g.K.Sink.failures c.args.sink.now) (g.K.Sink.taken c.args.sink.now)
    (net_seen (g.N.Net.told c.args.net.now) (g.N.Net.failures c.args.net.now) (g.N.Net.listen_failures c.args.net.now)))

pub returns-in_err-object-clause-taken : goal.returns-in_err-object-clause-taken
returns-in_err-object-clause-taken g c = inl (keeps_itself (g.S.Source.left c.args.source.now))

pub returns-clause-comes : goal.returns-clause-comes
returns-clause-comes g c = λ shelf.
    let command = seen c.args.command in
    let input = g.S.Source.left c.args.source.now in
    let t = c.args.schema.now in
    let parsed = c.args.callee.now in
    let found = found_seen c.known_of-found.result in
    comes_so (FoundDecides command input found parsed) (SchemaDecides command input parsed t) (FoundWants command found parsed) (SchemaWants command parsed t)
    (schema_decides command input parsed t c.in-Some.interface c.in-Some.ensures found c.known_of-found.ensures.found)
    (schema_wants command input parsed t c.in-Some.interface c.in-Some.ensures found c.known_of-found.ensures.found)
    (counts shelf (g.S.Source.failures c.args.source.now) (g.K.Sink.failures c.args.sink.now)) (counts shelf (g.S.Source.failures c.with_found-came.new.source) (g.K.Sink.failures c.with_found-came.new.sink))
    (g.K.Sink.taken c.args.sink.now) (g.K.Sink.taken c.with_found-came.new.sink) (net_seen (g.N.Net.told c.args.net.now) (g.N.Net.failures c.args.net.now) (g.N.Net.listen_failures c.args.net.now))
    (net_seen (g.N.Net.told c.with_found-came.new.net) (g.N.Net.failures c.with_found-came.new.net) (g.N.Net.listen_failures c.with_found-came.new.net)) (ended_of c.with_found-came.result) (c.with_found-came.ensures.comes shelf)

pub returns-clause-taken : goal.returns-clause-taken
returns-clause-taken g c =
    let command = seen c.args.command in
    let input = g.S.Source.left c.args.source.now in
    let t = c.args.schema.now in
    let parsed = c.args.callee.now in
    let found = found_seen c.known_of-found.result in
    takes_so (FoundWants command found parsed) (SchemaWants command parsed t)
    (schema_wants command input parsed t c.in-Some.interface c.in-Some.ensures found c.known_of-found.ensures.found)
    input (g.S.Source.left c.with_found-came.new.source) c.with_found-came.ensures.taken
