use Rattle.std.proofs.Common.{◌≡◌, ◌∙◌, inl, ℕ, ◌+◌, Bool, false, refl, sym, ap, subst, arith, rules}
use denote.Enum.Bare.{differs_false, differs_true}
use Rattle.ice_ports.specs.Failures.{count_after}
use Rattle.talking.specs.Told.{NoneToCome}
use Rattle.ice_gateway.specs.contracts.serving.Turn.{the_type}
use Rattle.ice_gateway.specs.declared.serving.Turn.{Turn}
use Rattle.ice_gateway.specs.declared.serving.Turn.TheVariants as turns
use Rattle.ice_gateway.specs.Gate.{seen}
use Rattle.ice_gateway.specs.Runs.{net_seen}
use Rattle.ice_gateway.specs.Sessions.{AllServed, HasServed, fails, runs_out, serves, starves}
use Rattle.talking.proofs.Told.{none_gathered}
use Rattle.ice_gateway.proofs.Told.{begins, ended_by, gathered, one_at_most}
use Rattle.ice_gateway.proofs.serving.gate_all.Goals as goal

pub loop-accepted-init : goal.loop-accepted-init
loop-accepted-init g c = record {
  served = begins (seen c.args.gateway.now) c.args.messages (g.D.Listener.told c.args.door) (g.D.Tray.Tray.told c.tray-tray.result)
      (net_seen (g.N.Net.told c.args.net.now) (g.N.Net.failures c.args.net.now) (g.N.Net.listen_failures c.args.net.now)) c.tray-tray.ensures;
  failures = refl;
  nones = refl;
}

pub loop-accepted-preserved : goal.loop-accepted-preserved
loop-accepted-preserved g c =
    let i = c.loop-accepted.invariant in
    let s = c.serve_next-turn in
    let start = net_seen (g.N.Net.told c.args.net.now) (g.N.Net.failures c.args.net.now) (g.N.Net.listen_failures c.args.net.now) in
    let now = net_seen (g.N.Net.told s.new.net) (g.N.Net.failures s.new.net) (g.N.Net.listen_failures s.new.net) in
    let n = c.loop-accepted.accepted in
    let is : s.result ≡ turns.Served = differs_false the_type (search rules) s.result turns.Served (sym c.ne.ensures ∙ c.if-ne.false) in
    let did = s.ensures.did (g.D.Listener.told c.args.door) start n (let a = c.loop-accepted-test.true in let b = c.ranges.connections in omega arith) i.served in
    record {
      served = subst (λ (t : Turn). HasServed (seen c.args.gateway.now) c.args.messages (g.D.Listener.told c.args.door) (g.D.Listener.told s.new.door) (g.D.Tray.Tray.told s.new.tray) start now (n + serves t) (starves t)) is did;
      failures = s.ensures.failures ∙ (ap (λ (t : Turn). count_after (g.D.Listener.failures c.loop-accepted.door) (fails t)) is ∙ i.failures);
      nones = s.ensures.nones ∙ (ap (λ (t : Turn). count_after (g.D.Listener.nones c.loop-accepted.door) (runs_out t)) is ∙ i.nones);
    }

pub overflow_add-accepted : goal.overflow_add-accepted
overflow_add-accepted g c =
    let few = one_at_most c.serve_next-turn.result in
    let a = c.loop-accepted-test.true in let l = c.links_of.ensures in let b = c.ranges.connections in omega arith

pub returns-then-ne-clause-done : goal.returns-then-ne-clause-done
returns-then-ne-clause-done g c =
    let i = c.loop-accepted.invariant in
    let s = c.serve_next-turn in
    let start = net_seen (g.N.Net.told c.args.net.now) (g.N.Net.failures c.args.net.now) (g.N.Net.listen_failures c.args.net.now) in
    let now = net_seen (g.N.Net.told s.new.net) (g.N.Net.failures s.new.net) (g.N.Net.listen_failures s.new.net) in
    let n = c.loop-accepted.accepted in
    let did = s.ensures.did (g.D.Listener.told c.args.door) start n (let a = c.loop-accepted-test.true in let b = c.ranges.connections in omega arith) i.served in
    let end = c.gathered.ensures in
    let door = g.D.Listener.told c.gathered.result.door in
    let count : n + serves s.result ≡ c.gathered.result.accepted = (let a = end.accepted in let l = c.links_of.ensures in omega arith) in
    let all = gathered (seen c.args.gateway.now) c.args.messages (g.D.Listener.told c.args.door) (g.D.Listener.told s.new.door) door (g.D.Tray.Tray.told s.new.tray) start now (n + serves s.result) (starves s.result) end.told did in
    subst (λ (b : Bool). AllServed (seen c.args.gateway.now) c.args.messages (g.D.Listener.told c.args.door) door start now c.gathered.result.accepted b) (sym end.starved)
    (subst (λ (k : ℕ). AllServed (seen c.args.gateway.now) c.args.messages (g.D.Listener.told c.args.door) door start now k (starves s.result)) count all)

pub returns-then-ne-clause-few : goal.returns-then-ne-clause-few
returns-then-ne-clause-few g c =
    let few = one_at_most c.serve_next-turn.result in
    let a = c.loop-accepted-test.true in let l = c.links_of.ensures in let e = c.gathered.ensures.accepted in omega arith

pub returns-then-ne-clause-failures : goal.returns-then-ne-clause-failures
returns-then-ne-clause-failures g c =
    let s = c.serve_next-turn in
    c.gathered.ensures.failures ∙ (s.ensures.failures ∙ (ap (λ (n : ℕ). count_after n (fails s.result)) c.loop-accepted.invariant.failures
    ∙ ap (λ (b : Bool). count_after (g.D.Listener.failures c.args.door) b) (sym c.gathered.ensures.failed)))

pub returns-then-ne-clause-ended : goal.returns-then-ne-clause-ended
returns-then-ne-clause-ended g c fine fed =
    let s = c.serve_next-turn in let end = c.gathered.ensures in
    let other : s.result ≡ turns.Served → ⊥ = differs_true the_type s.result turns.Served (sym c.ne.ensures ∙ c.if-ne.true) in
    ended_by {A = c.gathered.result.accepted ≡ c.args.connections} {B = NoneToCome (g.D.Listener.told c.gathered.result.door)} s.result (g.D.Listener.nones c.args.door) (g.D.Listener.nones c.gathered.result.door)
    (sym end.failed ∙ fine) (sym end.starved ∙ fed) (λ is. absurd (other is)) (λ over. none_gathered (g.D.Listener.told s.new.door) _ _ end.told (s.ensures.no_more over))
    (end.nones ∙ (s.ensures.nones ∙ ap (λ (n : ℕ). count_after n (runs_out s.result)) c.loop-accepted.invariant.nones))

pub returns-clause-done : goal.returns-clause-done
returns-clause-done g c =
    let i = c.loop-accepted.invariant in
    let start = net_seen (g.N.Net.told c.args.net.now) (g.N.Net.failures c.args.net.now) (g.N.Net.listen_failures c.args.net.now) in
    let now = net_seen (g.N.Net.told c.loop-accepted.net) (g.N.Net.failures c.loop-accepted.net) (g.N.Net.listen_failures c.loop-accepted.net) in
    let end = c.gathered-2.ensures in
    let door = g.D.Listener.told c.gathered-2.result.door in
    let count : c.loop-accepted.accepted ≡ c.gathered-2.result.accepted = (let a = end.accepted in let b = c.loop-accepted-test.false in let e = c.loop-accepted.auto.accepted-end in omega arith) in
    let all = gathered (seen c.args.gateway.now) c.args.messages (g.D.Listener.told c.args.door) (g.D.Listener.told c.loop-accepted.door) door (g.D.Tray.Tray.told c.loop-accepted.tray) start now c.loop-accepted.accepted false end.told i.served in
    subst (λ (b : Bool). AllServed (seen c.args.gateway.now) c.args.messages (g.D.Listener.told c.args.door) door start now c.gathered-2.result.accepted b) (sym end.starved)
    (subst (λ (k : ℕ). AllServed (seen c.args.gateway.now) c.args.messages (g.D.Listener.told c.args.door) door start now k false) count all)

pub returns-clause-failures : goal.returns-clause-failures
returns-clause-failures g c =
    c.gathered-2.ensures.failures ∙ (c.loop-accepted.invariant.failures ∙ ap (λ (b : Bool). count_after (g.D.Listener.failures c.args.door) b) (sym c.gathered-2.ensures.failed))

pub returns-clause-ended : goal.returns-clause-ended
returns-clause-ended g c fine fed = inl (c.gathered-2.ensures.accepted, c.gathered-2.ensures.nones ∙ c.loop-accepted.invariant.nones)
