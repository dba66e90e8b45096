use Rattle.std.proofs.Common.{◌∷◌, []}
use Rattle.encaps_optionals.specs.Usable.{tcp_at}
use Rattle.ice_client.proofs.Delivering.{no_place, some_place}
use Rattle.ice_gateway.specs.Gate.{seen}
use Rattle.ice_gateway.specs.Forwarded.{placed}
use Rattle.ice_gateway.specs.Runs.{net_seen}
use Rattle.ice_gateway.proofs.Passing.{passed_by, placed_none, send_starved, was_sent}
use Rattle.ice_gateway.proofs.Runs.{ran_none, ran_one}
use Rattle.ice_gateway.proofs.forwarding.forward.Goals.{in-Ok, in-Err-Memory}
use Rattle.ice_gateway.proofs.forwarding.forward.Goals as goal

pub returns-then-is_none : goal.returns-then-is_none
returns-then-is_none g c =
    let gate = seen c.args.gateway.now in
    let net = net_seen (g.N.Net.told c.args.net.now) (g.N.Net.failures c.args.net.now) (g.N.Net.listen_failures c.args.net.now) in
    record { told = ([], ran_none gate.endpoints net, passed_by gate (placed gate c.args.message.now) (placed_none gate c.args.message.now (no_place _ c.tcp_of.result (tcp_at 0 gate.endpoints) c.if-is_none.ensures c.tcp_of.ensures))) }

pub returns : goal.returns
returns g c =
    let gate = seen c.args.gateway.now in
    let old = net_seen (g.N.Net.told c.args.net.now) (g.N.Net.failures c.args.net.now) (g.N.Net.listen_failures c.args.net.now) in
    let new = net_seen (g.N.Net.told c.send.new.net) (g.N.Net.failures c.send.new.net) (g.N.Net.listen_failures c.send.new.net) in
    let some = some_place _ c.tcp_of.result (tcp_at 0 gate.endpoints) c.if-is_none.ensures c.tcp_of.ensures in
    elim c.match-send.branch [
      | in-Ok w ↦
          let told = w.in-Ok.ensures.told in
          rw w.result-is (record { told = (told.0 ∷ [], ran_one gate.endpoints told.0 old new told.1 w.in-Ok.ensures.kept, was_sent gate c.args.message.now told.0 w.in-Ok.field-0 some told.2) })
      | in-Err-Memory w ↦
          let told = w.in-Err-Memory.ensures.told in
          rw w.result-is (record { told = (told.0 ∷ [], ran_one gate.endpoints told.0 old new told.1 w.in-Err-Memory.ensures.kept, send_starved gate c.args.message.now told.0 _ some w.in-Err-Memory.field-0-is told.2) })
    ]
