use Rattle.std.proofs.Common.{◌∙◌, ℕ, ◌+◌, Bool, sym, ap, subst}
use Rattle.std.specs.Prelude.{Option}
use Rattle.ice_ports.specs.Failures.{count_after}
use Rattle.ice_ports.specs.Nets.{ToldListener}
use Rattle.talking.specs.Told.{NoneToCome}
use Rattle.ice_gateway.specs.Gate.{seen}
use Rattle.ice_gateway.specs.Runs.{net_seen}
use Rattle.ice_gateway.specs.Sessions.{HasServed, starves}
use Rattle.talking.proofs.Told.{none_comes}
use Rattle.ice_gateway.proofs.Told.{failed_same, link_served, none_served, nones_none, nones_some, unchanged}
use Rattle.ice_gateway.proofs.serving.serve_next.Goals as goal

pub returns-in-Ok-Some-clause-did : goal.returns-in-Ok-Some-clause-did
returns-in-Ok-Some-clause-did g c first old n few h =
    let gate = seen c.args.gateway.now in
    let d = c.gate_connection-end.ensures.did in
    let now = g.D.Listener.told c.accept.new.self in
    let tray = g.D.Tray.Tray.told c.take_back.new.self in
    let before = net_seen (g.N.Net.told c.args.net.now) (g.N.Net.failures c.args.net.now) (g.N.Net.listen_failures c.args.net.now) in
    let after = net_seen (g.N.Net.told c.gate_connection-end.new.net) (g.N.Net.failures c.gate_connection-end.new.net) (g.N.Net.listen_failures c.gate_connection-end.new.net) in
    subst (λ (k : ℕ). HasServed gate c.args.messages first now tray old after (n + k) (starves c.turn_of.result)) (sym c.turn_of.ensures.serves)
    (subst (λ (b : Bool). HasServed gate c.args.messages first now tray old after (n + 1) b) (sym c.turn_of.ensures.starves)
    (link_served _ ℕ g.D.Link.Source.failures g.D.Link.Sink.failures g.D.Link.Link.talk c.in-Ok-Some.field-0 c.in-Ok-Some.link gate c.args.messages first c.gate_connection-end.result (g.D.Listener.told c.args.door.now) now
    (g.D.Tray.Tray.told c.args.tray.now) tray _ d.0 d.1 old before after n c.is_err.result c.in-Ok-Some.field-0-is c.in-Ok-Some.ensures.told c.in-Ok-Some.ensures.new d.2 c.take_back.ensures.told d.3 d.4 c.is_err.ensures.value few h))

pub returns-in-Ok-Some-clause-failures : goal.returns-in-Ok-Some-clause-failures
returns-in-Ok-Some-clause-failures g c = c.in-Ok-Some.ensures.count ∙ ap (λ (b : Bool). count_after (g.D.Listener.failures c.args.door.now) b) (sym c.turn_of.ensures.fails)

pub returns-in-Ok-Some-clause-nones : goal.returns-in-Ok-Some-clause-nones
returns-in-Ok-Some-clause-nones g c = nones_some _ ℕ c.in-Ok-Some.field-0 c.in-Ok-Some.link _ _ _ c.in-Ok-Some.field-0-is c.in-Ok-Some.ensures.nones c.turn_of.ensures.runs_out

pub returns-in-Ok-Some-clause-no_more : goal.returns-in-Ok-Some-clause-no_more
returns-in-Ok-Some-clause-no_more g c over = absurd (let e = c.turn_of.ensures.runs_out in cc)

pub returns-in-Ok-None-clause-did : goal.returns-in-Ok-None-clause-did
returns-in-Ok-None-clause-did g c first old n few h =
    let now = g.D.Listener.told c.args.door.now in
    let later = g.D.Listener.told c.accept.new.self in
    none_served (seen c.args.gateway.now) c.args.messages first now later (g.D.Tray.Tray.told c.args.tray.now) old
    (net_seen (g.N.Net.told c.args.net.now) (g.N.Net.failures c.args.net.now) (g.N.Net.listen_failures c.args.net.now)) n
    (unchanged _ ℕ c.in-Ok-None.field-0 c.in-Ok-None.field-0-is now later c.in-Ok-None.ensures.told) h

pub returns-in-Ok-None-clause-nones : goal.returns-in-Ok-None-clause-nones
returns-in-Ok-None-clause-nones g c = nones_none _ ℕ c.in-Ok-None.field-0 _ _ c.in-Ok-None.field-0-is c.in-Ok-None.ensures.nones

pub returns-in-Ok-None-clause-no_more : goal.returns-in-Ok-None-clause-no_more
returns-in-Ok-None-clause-no_more g c over =
    let now = g.D.Listener.told c.args.door.now in
    let later = g.D.Listener.told c.accept.new.self in
    subst (λ (z : Option ToldListener). NoneToCome z) (sym (unchanged _ ℕ c.in-Ok-None.field-0 c.in-Ok-None.field-0-is now later c.in-Ok-None.ensures.told))
    (none_comes c.in-Ok-None.field-0 now c.in-Ok-None.field-0-is c.in-Ok-None.ensures.over)

pub returns-in-Err-clause-did : goal.returns-in-Err-clause-did
returns-in-Err-clause-did g c first old n few h =
    let now = g.D.Listener.told c.args.door.now in
    let later = g.D.Listener.told c.accept.new.self in
    none_served (seen c.args.gateway.now) c.args.messages first now later (g.D.Tray.Tray.told c.args.tray.now) old
    (net_seen (g.N.Net.told c.args.net.now) (g.N.Net.failures c.args.net.now) (g.N.Net.listen_failures c.args.net.now)) n
    (failed_same ℕ ℕ 0 now later c.in-Err.ensures.told) h
