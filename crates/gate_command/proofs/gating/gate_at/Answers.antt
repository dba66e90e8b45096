use Rattle.std.proofs.Common.{◌∙◌}
use Rattle.ice_gateway.specs.Runs.{net_seen}
use Rattle.gate_command.specs.Words.{seen}
use Rattle.gate_command.specs.Steps.{gate_of}
use Rattle.gate_command.proofs.Listening.{untold}
use Rattle.gate_command.proofs.gating.gate_at.Goals as goal

pub returns : goal.returns
returns g c =
    untold (seen c.args.command) (gate_of c.args.plan.now) (g.N.Listener.Listener.told c.args.listener) (g.N.Listener.Listener.port c.args.listener) c.from.result
    (g.K.Sink.taken c.args.sink.now) (g.K.Sink.taken c.tell.new.sink) (g.K.Sink.failures c.args.sink.now) (g.K.Sink.failures c.tell.new.sink)
    (net_seen (g.N.Net.told c.args.net.now) (g.N.Net.failures c.args.net.now) (g.N.Net.listen_failures c.args.net.now)) _ _ _
    (g.N.Listener.Listener.failures c.args.listener) c.tell.result c.tell.ensures c.if-tell.false (c.from.ensures ∙ c.port.ensures)
    c.retire.ensures.told c.retire.ensures.kept c.retire.ensures.count c.requires.new
