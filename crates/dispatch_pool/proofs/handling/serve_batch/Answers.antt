use Rattle.std.proofs.Common.{◌≡◌, ◌∙◌, ◌+◌, false, ◌∷◌, drop, length, refl, sym, ap, subst}
use Rattle.std.specs.Prelude.{Some}
use Rattle.std.specs.declared.alloc.AllocError.{AllocError}
use Rattle.std.proofs.lemmas.Result.{err_from_is_err_and}
use Rattle.retry_core.specs.declared.server.ServerState.{ServerState}
use Rattle.retry_core.specs.declared.server.ServerEvent.TheVariants as events
use Rattle.retry_core.specs.Server.{server_row}
use Rattle.dispatch_pool.proofs.Calls.{called, cut_at, batch_begun, batch_more, batch_starved, batch_opened, batch_stepped, batch_state}
use Rattle.dispatch_pool.proofs.handling.serve_batch.Goals as goal

pub loop-call-init : goal.loop-call-init
loop-call-init g c = record {
  of = c.requires.of;
  state = batch_opened c.args.calls.now (length c.args.calls.now) c.step.result c.step.new.self refl (subst (λ (s : ServerState). server_row s (events.Request (length c.args.calls.now) false) ≡ Some (c.step.result, c.step.new.self)) c.requires.reading c.step.ensures);
  did = batch_begun c.args.service.now.lanes.now.keys c.args.passes.now.passes.items c.args.calls.now;
}

pub returns-in_err-answer-clause-did : goal.returns-in_err-answer-clause-did
returns-in_err-answer-clause-did g c =
    let failed = err_from_is_err_and c.from_residual.result c.from_residual.ensures.1 in
    rw failed.1 (batch_starved c.args.service.now.lanes.now.keys AllocError _ c.args.passes.now.passes.items c.loop-call.passes.passes.items c.dispatch.new.passes.passes.items c.args.calls.now (drop c.loop-call.call-index c.args.calls.now) c.loop-call.invariant.did c.in_err-answer.ensures.err)

pub loop-call-preserved : goal.loop-call-preserved
loop-call-preserved g c =
    let i = c.loop-call.invariant in let calls = c.args.calls.now in let at = c.loop-call.call-index in let call = c.call-item.result in
    let cut : drop at calls ≡ call ∷ drop (at + 1) calls = cut_at at calls call c.loop-call-test.true ∙ ap (λ z. z ∷ drop (at + 1) calls) (sym c.call-item.is) in
    record {
      of = c.dispatch.ensures.of;
      state = batch_stepped call (drop (at + 1) calls) c.step-in-loop-call.result c.step-in-loop-call.new.self
          (subst (λ (s : ServerState). server_row s events.Answered ≡ Some (c.step-in-loop-call.result, c.step-in-loop-call.new.self)) (i.state ∙ ap batch_state cut) c.step-in-loop-call.ensures);
      did = batch_more c.args.service.now.lanes.now.keys c.args.passes.now.passes.items c.loop-call.passes.passes.items c.dispatch.new.passes.passes.items calls (drop at calls) (drop (at + 1) calls) call c.in_ok-answer.answer cut i.did
          (called c.args.service.now.lanes.now c.loop-call.passes c.dispatch.new.passes call c.in_ok-answer.answer c.in_ok-answer.ensures.ok);
    }
