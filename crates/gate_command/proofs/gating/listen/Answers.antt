use Rattle.std.proofs.Common.{refl}
use Rattle.ice_gateway.specs.Runs.{net_seen}
use Rattle.gate_command.specs.Words.{seen}
use Rattle.gate_command.specs.Steps.{gate_of}
use Rattle.gate_command.proofs.Listening.{heard_at, not_heard}
use Rattle.gate_command.proofs.gating.listen.Goals as goal

pub returns-in-Ok : goal.returns-in-Ok
returns-in-Ok g c =
    heard_at (seen c.args.command) (gate_of c.args.plan.now) (g.K.Sink.taken c.args.sink.now) (g.K.Sink.taken c.gate_at.new.sink) (g.K.Sink.failures c.args.sink.now) (g.K.Sink.failures c.gate_at.new.sink)
    (net_seen (g.N.Net.told c.args.net.now) (g.N.Net.failures c.args.net.now) (g.N.Net.listen_failures c.args.net.now)) _ _ _
    (g.N.Listener.Listener.told c.in-Ok.listener) (g.N.Listener.Listener.port c.in-Ok.listener)
    (net_seen (g.N.Net.told c.gate_at.new.net) (g.N.Net.failures c.gate_at.new.net) (g.N.Net.listen_failures c.gate_at.new.net)) c.gate_at.result
    c.in-Ok.ensures.told c.in-Ok.ensures.kept c.in-Ok.ensures.count c.in-Ok.ensures.new.0 c.in-Ok.ensures.port c.gate_at.ensures

pub returns-in-Err : goal.returns-in-Err
returns-in-Err g c =
    not_heard (seen c.args.command) (gate_of c.args.plan.now) (g.K.Sink.taken c.args.sink.now) (g.K.Sink.taken c.args.sink.now) (g.K.Sink.failures c.args.sink.now) (g.K.Sink.failures c.args.sink.now)
    (net_seen (g.N.Net.told c.args.net.now) (g.N.Net.failures c.args.net.now) (g.N.Net.listen_failures c.args.net.now)) _ _ _
    c.in-Err.ensures.told c.in-Err.ensures.kept c.in-Err.ensures.count refl refl
