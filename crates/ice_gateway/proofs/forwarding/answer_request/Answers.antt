use Rattle.std.proofs.Common.{rules, ℕ, List, [], refl, sym, ap, subst, ◌∙◌}
use Rattle.std.specs.Prelude.{None, Ok}
use Rattle.std.proofs.lemmas.Result.{err_from_is_err_and}
use Rattle.std.specs.declared.alloc.AllocError.{AllocError}
use Rattle.object_adapter.proofs.Short.{missed_4, replies}
use Rattle.ice_gateway.specs.declared.admitting.Admitted.TheVariants.{Goes, Refused}
use Rattle.ice_gateway.specs.Gate.{operation_of, operation_seen, seen}
use Rattle.ice_gateway.specs.Laws.{IsAdmitted}
use Rattle.ice_gateway.specs.Runs.{net_seen}
use Rattle.ice_gateway.proofs.Outcomes.{none_starved}
use Rattle.ice_gateway.proofs.Passing.{each_reply, known_so, not_known}
use Rattle.ice_gateway.proofs.Runs.{ran_none}
use Rattle.ice_gateway.proofs.forwarding.answer_request.Goals as goal

pub returns-in_default-clause-told : goal.returns-in_default-clause-told
returns-in_default-clause-told g c =
    let gate = seen c.args.gateway.now in
    let net = net_seen (g.N.Net.told c.args.net.now) (g.N.Net.failures c.args.net.now) (g.N.Net.listen_failures c.args.net.now) in
    ([], ran_none gate.endpoints net, not_known gate c.args.call.now c.missed.result (c.in_default.ensures ∙ ap (λ (name : List ℕ). operation_of gate name) c.as_str.ensures) c.missed.ensures)

pub returns-in_default-clause-replies : goal.returns-in_default-clause-replies
returns-in_default-clause-replies g c = missed_4 c.args.call.now c.missed.result c.missed.ensures

pub returns-in_err-call-clause-told : goal.returns-in_err-call-clause-told
returns-in_err-call-clause-told g c =
    let failed = err_from_is_err_and c.from_residual.result c.from_residual.ensures.1 in
    let net = net_seen (g.N.Net.told c.args.net.now) (g.N.Net.failures c.args.net.now) (g.N.Net.listen_failures c.args.net.now) in
    rw failed.1 ([], ran_none c.args.gateway.now.upstream.now.endpoints net, none_starved (seen c.args.gateway.now) _)

pub answer_call-requires : goal.answer_call-requires
answer_call-requires g c = (search rules, (search rules, (search rules, subst IsAdmitted c.in-Goes.is c.in_ok-call.ensures.sendable)))

pub returns-in-Goes-clause-told : goal.returns-in-Goes-clause-told
returns-in-Goes-clause-told g c =
    let gate = seen c.args.gateway.now in
    let told = c.answer_call.ensures.told in
    (told.0, told.1, known_so gate c.args.call.now (operation_seen c.in-Some.known) (Goes c.in-Goes.call) told.0 c.answer_call.result (c.in-Some.ensures ∙ ap (λ (name : List ℕ). operation_of gate name) c.as_str.ensures) (sym c.in-Goes.is ∙ c.in_ok-call.ensures.is) told.2)

pub returns-in-Goes-clause-replies : goal.returns-in-Goes-clause-replies
returns-in-Goes-clause-replies g c = each_reply c.args.call.now c.answer_call.result c.answer_call.ensures.replies

pub returns-in-Refused-clause-told : goal.returns-in-Refused-clause-told
returns-in-Refused-clause-told g c =
    let gate = seen c.args.gateway.now in
    let net = net_seen (g.N.Net.told c.args.net.now) (g.N.Net.failures c.args.net.now) (g.N.Net.listen_failures c.args.net.now) in (
      [],
      ran_none gate.endpoints net,
      known_so {E = AllocError} gate c.args.call.now (operation_seen c.in-Some.known) (Refused c.in-Refused.answer) [] (Ok c.in-Refused.answer) (c.in-Some.ensures ∙ ap (λ (name : List ℕ). operation_of gate name) c.as_str.ensures) (sym c.in-Refused.is ∙ c.in_ok-call.ensures.is) (None, refl, tt, refl),
    )

pub returns-in-Refused-clause-replies : goal.returns-in-Refused-clause-replies
returns-in-Refused-clause-replies g c = replies c.args.call.now c.in-Refused.answer (subst IsAdmitted c.in-Refused.is c.in_ok-call.ensures.sendable)
