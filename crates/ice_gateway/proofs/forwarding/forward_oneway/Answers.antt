use Rattle.std.proofs.Common.{pos, [], sym, ap, subst, ◌∙◌}
use Rattle.std.specs.Prelude.{Option}
use Rattle.std.proofs.lemmas.Result.{err_from_is_err_and}
use Rattle.ice_messages.specs.declared.message.Call.{Call}
use Rattle.ice_gateway.specs.Gate.{seen}
use Rattle.ice_gateway.specs.Forwarded.{going, request_anew}
use Rattle.ice_gateway.specs.Mapped.{admitted}
use Rattle.ice_gateway.specs.Parts.{Passes}
use Rattle.ice_gateway.specs.Runs.{net_seen}
use Rattle.ice_gateway.proofs.Outcomes.{none_starved}
use Rattle.ice_gateway.proofs.Passing.{passed_by}
use Rattle.ice_gateway.proofs.Runs.{ran_none}
use Rattle.ice_gateway.proofs.forwarding.forward_oneway.Goals as goal

pub returns-in_err-call : goal.returns-in_err-call
returns-in_err-call g c =
    let failed = err_from_is_err_and c.from_residual.result c.from_residual.ensures.1 in
    let net = net_seen (g.N.Net.told c.args.net.now) (g.N.Net.failures c.args.net.now) (g.N.Net.listen_failures c.args.net.now) in
    rw failed.1 (record { told = ([], ran_none c.args.gateway.now.upstream.now.endpoints net, none_starved (seen c.args.gateway.now) _) })

pub returns-in-Some : goal.returns-in-Some
returns-in-Some g c =
    let gate = seen c.args.gateway.now in
    let told = c.forward.ensures.told in
    record { told = (told.0, told.1, subst (λ (o : Option Call). Passes gate (request_anew gate (pos 0) o) told.0 c.forward.result) (sym c.in-Some.is ∙ c.in_ok-call.ensures.is) told.2) }

pub returns-in-None : goal.returns-in-None
returns-in-None g c =
    let gate = seen c.args.gateway.now in
    let net = net_seen (g.N.Net.told c.args.net.now) (g.N.Net.failures c.args.net.now) (g.N.Net.listen_failures c.args.net.now) in
    let is = sym c.in-None.is ∙ c.in_ok-call.ensures.is in
    let due = request_anew gate (pos 0) (going (admitted gate c.args.call.now)) in
    record { told = ([], ran_none gate.endpoints net, passed_by gate due (ap (λ (o : Option Call). request_anew gate (pos 0) o) (sym is))) }
