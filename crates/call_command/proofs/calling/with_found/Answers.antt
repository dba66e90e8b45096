use Rattle.std.proofs.Common.{inl, ap}
use Rattle.node_commands.specs.Outside.{counts}
use Rattle.node_commands.proofs.Keeping.{keeps_itself}
use Rattle.call_command.specs.Words.{seen}
use Rattle.call_command.specs.Operations.{found_seen, seen as operation_seen}
use Rattle.call_command.specs.Endings.{ended_of}
use Rattle.call_command.specs.Rounds.{net_seen}
use Rattle.call_command.specs.Steps.{KnownDecides, KnownWants, FoundDecides, FoundWants}
use Rattle.call_command.proofs.Stepping.{no_operation, no_callee, found_decides, found_wants, comes_so, takes_so}
use Rattle.call_command.proofs.calling.with_found.Goals as goal

pub returns-in_default-clause-comes : goal.returns-in_default-clause-comes
returns-in_default-clause-comes g c = λ shelf.
    no_operation (seen c.args.command) (g.S.Source.left c.args.source.now) (found_seen c.args.found) c.args.callee.now shelf (g.S.Source.failures c.args.source.now) (g.K.Sink.failures c.args.sink.now) (g.K.Sink.taken c.args.sink.now)
    (net_seen (g.N.Net.told c.args.net.now) (g.N.Net.failures c.args.net.now) (g.N.Net.listen_failures c.args.net.now)) (ap found_seen c.in_default.is)

pub returns-in_default-clause-taken : goal.returns-in_default-clause-taken
returns-in_default-clause-taken g c = inl (keeps_itself (g.S.Source.left c.args.source.now))

pub returns-in-Err-clause-comes : goal.returns-in-Err-clause-comes
returns-in-Err-clause-comes g c = λ shelf.
    no_callee (seen c.args.command) (g.S.Source.left c.args.source.now) (found_seen c.args.found) c.args.callee.now shelf (g.S.Source.failures c.args.source.now) (g.K.Sink.failures c.args.sink.now) (g.K.Sink.taken c.args.sink.now)
    (net_seen (g.N.Net.told c.args.net.now) (g.N.Net.failures c.args.net.now) (g.N.Net.listen_failures c.args.net.now))
    (operation_seen c.in-Some.known) (ap found_seen c.in-Some.is) c.in-Err.place c.in-Err.is

pub returns-in-Err-clause-taken : goal.returns-in-Err-clause-taken
returns-in-Err-clause-taken g c = inl (keeps_itself (g.S.Source.left c.args.source.now))

pub returns-in-Ok-clause-comes : goal.returns-in-Ok-clause-comes
returns-in-Ok-clause-comes g c = λ shelf.
    let command = seen c.args.command in
    let input = g.S.Source.left c.args.source.now in
    let found = found_seen c.args.found in
    let o = operation_seen c.in-Some.known in
    let p = c.in-Ok.callee in
    comes_so (KnownDecides command input o p) (FoundDecides command input found c.args.callee.now) (KnownWants command o p) (FoundWants command found c.args.callee.now)
    (found_decides command input found c.args.callee.now o (ap found_seen c.in-Some.is) p c.in-Ok.is)
    (found_wants command input found c.args.callee.now o (ap found_seen c.in-Some.is) p c.in-Ok.is)
    (counts shelf (g.S.Source.failures c.args.source.now) (g.K.Sink.failures c.args.sink.now)) (counts shelf (g.S.Source.failures c.of_known.new.source) (g.K.Sink.failures c.of_known.new.sink))
    (g.K.Sink.taken c.args.sink.now) (g.K.Sink.taken c.of_known.new.sink) (net_seen (g.N.Net.told c.args.net.now) (g.N.Net.failures c.args.net.now) (g.N.Net.listen_failures c.args.net.now))
    (net_seen (g.N.Net.told c.of_known.new.net) (g.N.Net.failures c.of_known.new.net) (g.N.Net.listen_failures c.of_known.new.net)) (ended_of c.of_known.result) (c.of_known.ensures.comes shelf)

pub returns-in-Ok-clause-taken : goal.returns-in-Ok-clause-taken
returns-in-Ok-clause-taken g c =
    let command = seen c.args.command in
    let input = g.S.Source.left c.args.source.now in
    let found = found_seen c.args.found in
    let o = operation_seen c.in-Some.known in
    let p = c.in-Ok.callee in
    takes_so (KnownWants command o p) (FoundWants command found c.args.callee.now)
    (found_wants command input found c.args.callee.now o (ap found_seen c.in-Some.is) p c.in-Ok.is)
    input (g.S.Source.left c.of_known.new.source) c.of_known.ensures.taken
