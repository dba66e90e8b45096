use Rattle.std.proofs.Common.{refl, sym, subst}
use Rattle.std.specs.Prelude.{ℤ, Ok, Err}
use Rattle.std.specs.declared.alloc.AllocError.{AllocError}
use Rattle.std.proofs.lemmas.Result.{err_from_is_err_and}
use Rattle.std.proofs.Math.Facts.{to_z-of_z}
use Rattle.ice_ports.specs.Talks.{silent}
use Rattle.ice_messages.specs.declared.message.Message.TheVariants.{Reply}
use Rattle.object_adapter.specs.Replies.{KeepsLimit}
use Rattle.talking.proofs.Adding.{adds_nothing}
use Rattle.talking.specs.Said.{Says}
use Rattle.dispatch_pool.specs.Handled.{reply_of}
use Rattle.dispatch_pool.proofs.Calls.{called, called_replies, request_done, not_called}
use Rattle.dispatch_pool.proofs.handling.serve_request.Goals as goal

pub returns-in_err-answer-clause-did : goal.returns-in_err-answer-clause-did
returns-in_err-answer-clause-did g c =
    let failed = err_from_is_err_and c.from_residual.result c.from_residual.ensures.1 in
    rw failed.1 (silent, sym (adds_nothing (g.L.Link.talk c.args.link.now)), not_called c.args.service.now.lanes.now.keys _ _ AllocError _ _ c.in_err-answer.ensures.err)

pub reply-requires-clause-answer : goal.reply-requires-clause-answer
reply-requires-clause-answer g c = λ κs lives. (called_replies c.args.service.now.lanes.now c.args.passes.now c.dispatch.new.passes c.args.call.now c.in_ok-answer.answer c.in_ok-answer.ensures.ok).0

pub reply-requires-clause-short : goal.reply-requires-clause-short
reply-requires-clause-short g c = λ κs lives.
    let answer = c.in_ok-answer.answer in
    let can = called_replies c.args.service.now.lanes.now c.args.passes.now c.dispatch.new.passes c.args.call.now answer c.in_ok-answer.ensures.ok in
    subst (λ (z : ℤ). KeepsLimit (Reply z answer)) (sym (to_z-of_z c.ranges.id)) (can.1 c.requires.came.0 c.args.id c.args.id c.requires.came.1)

pub returns-in_err-went-clause-did : goal.returns-in_err-went-clause-did
returns-in_err-went-clause-did g c =
    let failed = err_from_is_err_and c.from_residual-in_err-went.result c.from_residual-in_err-went.ensures.1 in
    let e = c.in_err-went.field-0.0 in let answer = c.in_ok-answer.answer in let d = c.in_err-went.ensures.did in
    rw failed.1 (
      d.0,
      d.1,
      request_done c.args.service.now.lanes.now.keys _ _ AllocError (Err e) c.args.id c.args.call.now answer d.0
          (called c.args.service.now.lanes.now c.args.passes.now c.dispatch.new.passes c.args.call.now answer c.in_ok-answer.ensures.ok)
          (subst (λ (z : ℤ). Says {E = AllocError} (reply_of z answer) d.0 (Err e)) (to_z-of_z c.ranges.id) d.2) tt,
    )

pub returns-then-not-went-clause-did : goal.returns-then-not-went-clause-did
returns-then-not-went-clause-did g c =
    let answer = c.in_ok-answer.answer in let d = c.in_ok-went.ensures.did in (
      d.0,
      d.1,
      request_done c.args.service.now.lanes.now.keys _ _ AllocError (Ok c.in_ok-went.went) c.args.id c.args.call.now answer d.0
          (called c.args.service.now.lanes.now c.args.passes.now c.dispatch.new.passes c.args.call.now answer c.in_ok-answer.ensures.ok)
          (subst (λ (z : ℤ). Says {E = AllocError} (reply_of z answer) d.0 (Ok c.in_ok-went.went)) (to_z-of_z c.ranges.id) d.2) refl,
    )

pub returns-else-not-went-clause-did : goal.returns-else-not-went-clause-did
returns-else-not-went-clause-did g c =
    let answer = c.in_ok-answer.answer in let d = c.in_ok-went.ensures.did in (
      d.0,
      d.1,
      request_done c.args.service.now.lanes.now.keys _ _ AllocError (Ok c.in_ok-went.went) c.args.id c.args.call.now answer d.0
          (called c.args.service.now.lanes.now c.args.passes.now c.dispatch.new.passes c.args.call.now answer c.in_ok-answer.ensures.ok)
          (subst (λ (z : ℤ). Says {E = AllocError} (reply_of z answer) d.0 (Ok c.in_ok-went.went)) (to_z-of_z c.ranges.id) d.2) refl,
    )
