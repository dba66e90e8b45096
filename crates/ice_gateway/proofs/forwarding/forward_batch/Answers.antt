use Rattle.std.proofs.Common.{◌≡◌, [], List, length, sym, ap, subst, ◌∙◌, inl, inr, arith}
use Rattle.std.specs.Prelude.{Option}
use Rattle.std.proofs.lemmas.Result.{err_from_is_err_and}
use Rattle.ice_messages.specs.declared.message.Call.{Call}
use Rattle.ice_messages.specs.declared.message.Message.{Message}
use Rattle.ice_messages.specs.declared.message.Message.TheVariants.{Batch}
use Rattle.ice_messages.specs.Messages.{message_bytes}
use Rattle.ice_messages.specs.Written.{told}
use Rattle.ice_gateway.specs.Gate.{seen}
use Rattle.ice_gateway.specs.Forwarded.{batch_anew}
use Rattle.ice_gateway.specs.Parts.{Passed, Passes}
use Rattle.ice_gateway.specs.Runs.{net_seen}
use Rattle.ice_gateway.proofs.Fitting.{batch_long, batch_short}
use Rattle.ice_gateway.proofs.Outcomes.{none_starved}
use Rattle.ice_gateway.proofs.Passing.{batch_stays, batch_goes, each_writable, passed_by}
use Rattle.ice_gateway.proofs.Runs.{ran_none}
use Rattle.ice_gateway.proofs.forwarding.forward_batch.Goals as goal

pub returns-in_err-calls : goal.returns-in_err-calls
returns-in_err-calls g c =
    let failed = err_from_is_err_and c.from_residual.result c.from_residual.ensures.1 in
    let net = net_seen (g.N.Net.told c.args.net.now) (g.N.Net.failures c.args.net.now) (g.N.Net.listen_failures c.args.net.now) in
    rw failed.1 (record { told = ([], ran_none c.args.gateway.now.upstream.now.endpoints net, none_starved (seen c.args.gateway.now) _) })

pub returns-then-is_empty : goal.returns-then-is_empty
returns-then-is_empty g c =
    let gate = seen c.args.gateway.now in
    let net = net_seen (g.N.Net.told c.args.net.now) (g.N.Net.failures c.args.net.now) (g.N.Net.listen_failures c.args.net.now) in
    let cs = c.in_ok-calls.calls in record {
      told = (
        [],
        ran_none gate.endpoints net,
        subst (λ (l : List Call). Passed gate (batch_anew gate l) []) c.in_ok-calls.ensures.are
            (passed_by gate (batch_anew gate cs) (batch_stays gate cs (inl (c.is_empty.ensures.0 c.if-is_empty.true)))),
      );
    }

pub forward-requires-clause-writable : goal.forward-requires-clause-writable
forward-requires-clause-writable g c κs lives = each_writable c.in_ok-calls.calls c.in_ok-calls.ensures.sendable

pub forward-requires-clause-short : goal.forward-requires-clause-short
forward-requires-clause-short g c κs lives = batch_short c.in_ok-calls.calls c.batch_length.result (c.batch_length.ensures ∙ ap (λ (l : List Call). told (length (message_bytes (Batch l)))) c.as_slice.ensures) (omega (arith, c.if-batch_length.false))

pub returns-then-batch_length : goal.returns-then-batch_length
returns-then-batch_length g c =
    let gate = seen c.args.gateway.now in
    let net = net_seen (g.N.Net.told c.args.net.now) (g.N.Net.failures c.args.net.now) (g.N.Net.listen_failures c.args.net.now) in
    let cs = c.in_ok-calls.calls in
    let long = batch_long cs c.batch_length.result (c.batch_length.ensures ∙ ap (λ (l : List Call). told (length (message_bytes (Batch l)))) c.as_slice.ensures) (omega (arith, c.if-batch_length.true)) in record {
      told = (
        [],
        ran_none gate.endpoints net,
        subst (λ (l : List Call). Passed gate (batch_anew gate l) []) c.in_ok-calls.ensures.are (passed_by gate (batch_anew gate cs) (batch_stays gate cs (inr long))),
      );
    }

pub returns : goal.returns
returns g c =
    let gate = seen c.args.gateway.now in
    let cs = c.in_ok-calls.calls in
    let sent = c.forward.ensures.told in
    let short = batch_short cs c.batch_length.result (c.batch_length.ensures ∙ ap (λ (l : List Call). told (length (message_bytes (Batch l)))) c.as_slice.ensures) (omega (arith, c.if-batch_length.false)) in
    let some : cs ≡ [] → ⊥ = λ e. (let t = c.is_empty.ensures.1 e in let f = c.if-is_empty.false in cc) in
    let due = sym (batch_goes gate cs some short) ∙ ap (λ (l : List Call). batch_anew gate l) c.in_ok-calls.ensures.are in
    record { told = (sent.0, sent.1, subst (λ (d : Option Message). Passes gate d sent.0 c.forward.result) due sent.2) }
