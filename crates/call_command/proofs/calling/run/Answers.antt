use Rattle.std.proofs.Common.{inl}
use Rattle.std.proofs.lemmas.Result.{err_from_is_err_and}
use Rattle.node_commands.proofs.Keeping.{keeps_itself}
use Rattle.call_command.specs.Words.{seen}
use Rattle.call_command.specs.Endings.{ending_seen}
use Rattle.call_command.specs.Rounds.{net_seen}
use Rattle.call_command.proofs.Stepping.{unlisted}
use Rattle.call_command.proofs.calling.run.Goals as goal

pub returns-in_err-callee-clause-comes : goal.returns-in_err-callee-clause-comes
returns-in_err-callee-clause-comes g c =
    let failed = err_from_is_err_and c.from_residual.result c.from_residual.ensures.1 in
    rw (failed.1, failed.2) (unlisted (seen c.args.command) (g.H.Shelf.files c.args.shelf.now) (g.S.Source.left c.args.source.now) (g.H.Shelf.failures c.args.shelf.now) (g.H.Shelf.failures c.args.shelf.now) (g.S.Source.failures c.args.source.now) (g.K.Sink.failures c.args.sink.now) (g.K.Sink.taken c.args.sink.now)
    (net_seen (g.N.Net.told c.args.net.now) (g.N.Net.failures c.args.net.now) (g.N.Net.listen_failures c.args.net.now)) (ending_seen c.in_err-callee.field-0.0) c.in_err-callee.ensures)

pub returns-in_err-callee-clause-taken : goal.returns-in_err-callee-clause-taken
returns-in_err-callee-clause-taken g c = inl (keeps_itself (g.S.Source.left c.args.source.now))
