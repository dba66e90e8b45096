use Rattle.std.proofs.lemmas.Result.{err_from_is_err_and}
use Rattle.call_command.specs.Words.{seen}
use Rattle.call_command.specs.Operations.{seen as operation_seen}
use Rattle.call_command.specs.Planning.{seen as plan_seen}
use Rattle.call_command.specs.Endings.{ended_of, ending_seen}
use Rattle.call_command.specs.Rounds.{net_seen}
use Rattle.call_command.proofs.Stepping.{unplanned, looked_for, carried_so}
use Rattle.call_command.proofs.calling.of_known.Goals as goal

pub returns-in_err-plan-clause-comes : goal.returns-in_err-plan-clause-comes
returns-in_err-plan-clause-comes g c = λ shelf.
    let failed = err_from_is_err_and c.from_residual.result c.from_residual.ensures.1 in
    rw (failed.1, failed.2) (unplanned (seen c.args.command) (g.S.Source.left c.args.source.now) (operation_seen c.args.known) c.args.callee.now shelf (g.S.Source.failures c.args.source.now) (g.S.Source.failures c.plan_of.new.source) (g.K.Sink.failures c.args.sink.now) (g.K.Sink.taken c.args.sink.now)
    (net_seen (g.N.Net.told c.args.net.now) (g.N.Net.failures c.args.net.now) (g.N.Net.listen_failures c.args.net.now)) (ending_seen c.in_err-plan.field-0.0) c.in_err-plan.ensures.plan)

pub returns-in_err-plan-clause-taken : goal.returns-in_err-plan-clause-taken
returns-in_err-plan-clause-taken g c =
    looked_for (seen c.args.command) (operation_seen c.args.known) c.args.callee.now (g.S.Source.left c.args.source.now) (g.S.Source.left c.plan_of.new.source) c.in_err-plan.ensures.taken

pub returns-clause-comes : goal.returns-clause-comes
returns-clause-comes g c = λ shelf.
    let planned = c.in_ok-plan.ensures.plan in
    carried_so (seen c.args.command) (g.S.Source.left c.args.source.now) (operation_seen c.args.known) c.args.callee.now shelf (g.S.Source.failures c.args.source.now) (g.S.Source.failures c.plan_of.new.source) (g.K.Sink.failures c.args.sink.now) (g.K.Sink.failures c.carry_out-came.new.sink)
    (g.K.Sink.taken c.args.sink.now) (g.K.Sink.taken c.carry_out-came.new.sink) (net_seen (g.N.Net.told c.args.net.now) (g.N.Net.failures c.args.net.now) (g.N.Net.listen_failures c.args.net.now))
    (net_seen (g.N.Net.told c.carry_out-came.new.net) (g.N.Net.failures c.carry_out-came.new.net) (g.N.Net.listen_failures c.carry_out-came.new.net)) (plan_seen c.in_ok-plan.plan) planned.0 planned.1 (ended_of c.carry_out-came.result) c.carry_out-came.ensures

pub returns-clause-taken : goal.returns-clause-taken
returns-clause-taken g c =
    looked_for (seen c.args.command) (operation_seen c.args.known) c.args.callee.now (g.S.Source.left c.args.source.now) (g.S.Source.left c.plan_of.new.source) c.in_ok-plan.ensures.taken
