use Rattle.std.proofs.Common.{◌∙◌, ◌<◌, ◌^◌, true, List, [], ◌∷◌, length, refl, sym, subst, inr}
use Rattle.std.specs.Prelude.{ℤ, Option, Ok, Err}
use Rattle.std.proofs.Math.Facts.{to_z-of_z}
use Rattle.std.specs.declared.alloc.AllocError.{AllocError}
use Rattle.std.proofs.lemmas.Result.{err_from_is_err_and}
use Rattle.ice_ports.specs.Talks.{silent}
use Rattle.ice_messages.specs.declared.message.Call.{Call}
use Rattle.ice_messages.specs.declared.message.Message.{Message}
use Rattle.ice_messages.specs.declared.message.Message.TheVariants.{Request, Batch, Validate}
use Rattle.ice_messages.specs.Messages.{SpellsMessage}
use Rattle.talking.proofs.Adding.{adds_nothing}
use Rattle.talking.specs.declared.end.End.{End}
use Rattle.talking.specs.declared.end.End.TheVariants as ends
use Rattle.dispatch_pool.specs.Handled.{unasked}
use Rattle.dispatch_pool.specs.Parts.{Handling, Next}
use Rattle.talking.proofs.Said.{quiet}
use Rattle.dispatch_pool.proofs.Bounds.{batch_few, request_fits}
use Rattle.dispatch_pool.proofs.Sessions.{next_handled, next_quiet, next_end}
use Rattle.dispatch_pool.proofs.session.serve_message.Goals as goal

pub returns-in-Some-clause-did : goal.returns-in-Some-clause-did
returns-in-Some-clause-did g c = (
  silent,
  sym (adds_nothing (g.L.Link.talk c.args.link.now)),
  refl,
  λ bytes held first is spelled. next_end c.args.service.now.lanes.now.keys c.args.passes.now.passes.items silent bytes held (ends.PeerBroke c.in-Some.fault) (inr (c.args.message.now, (held, (first, held, is, spelled, refl)), sym c.server_fault.ensures ∙ c.in-Some.is)) (refl, (refl, tt)),
)

pub serve_request-requires-clause-came : goal.serve_request-requires-clause-came
serve_request-requires-clause-came g c = λ κs lives.
    let first = c.requires.spelled.0 in let id = c.in-Request.id in let call = c.in-Request.call in
    let spelled = subst (λ (z : Message). SpellsMessage first z) c.in-Request.is c.requires.spelled.1 in
    (first, subst (λ (z : ℤ). SpellsMessage first (Request z call)) (sym (to_z-of_z (request_fits first id call spelled))) spelled)

pub returns-in_err-went-in-Request-clause-did : goal.returns-in_err-went-in-Request-clause-did
returns-in_err-went-in-Request-clause-did g c =
    let failed = err_from_is_err_and c.from_residual.result c.from_residual.ensures.1 in
    let e = c.in_err-went-in-Request.field-0.0 in let d = c.in_err-went-in-Request.ensures.did in
    let m = Request c.in-Request.id c.in-Request.call in
    let fits = request_fits c.requires.spelled.0 c.in-Request.id c.in-Request.call (subst (λ (z : Message). SpellsMessage c.requires.spelled.0 z) c.in-Request.is c.requires.spelled.1) in
    let keys = c.args.service.now.lanes.now.keys in let ps = c.args.passes.now.passes.items in let qs = c.serve_request.new.passes.passes.items in
    rw failed.1 (
      d.0,
      d.1,
      quiet [] d.0 (Err e) d.2.says,
      λ bytes held first is spelled. next_handled keys (Err e) ps qs m bytes held first d.0 is (subst (λ (z : Message). SpellsMessage first z) c.in-Request.is spelled) (refl, λ e. cc) (subst (λ (z : ℤ). Handling keys ps qs {E = AllocError} (record { id = z; call = c.in-Request.call } ∷ []) d.0 (Err e)) (to_z-of_z fits) d.2),
    )

pub serve_batch-requires-clause-few : goal.serve_batch-requires-clause-few
serve_batch-requires-clause-few g c = λ κs lives. subst (λ (z : List Call). length z < 2 ^ 31) (sym c.as_slice.ensures)
    (batch_few c.requires.spelled.0 c.in-Batch.calls (subst (λ (z : Message). SpellsMessage c.requires.spelled.0 z) c.in-Batch.is c.requires.spelled.1))

pub returns-in_err-serve_batch-in-Batch-clause-did : goal.returns-in_err-serve_batch-in-Batch-clause-did
returns-in_err-serve_batch-in-Batch-clause-did g c =
    let failed = err_from_is_err_and c.from_residual-in_err-serve_batch-in-Batch.result c.from_residual-in_err-serve_batch-in-Batch.ensures.1 in
    let e = c.in_err-serve_batch-in-Batch.field-0.0 in let d = c.in_err-serve_batch-in-Batch.ensures.did in
    let keys = c.args.service.now.lanes.now.keys in let ps = c.args.passes.now.passes.items in let qs = c.serve_batch.new.passes.passes.items in
    rw failed.1 (
      silent,
      sym (adds_nothing (g.L.Link.talk c.args.link.now)),
      refl,
      λ bytes held first is spelled. next_handled keys (Err e) ps qs (Batch c.in-Batch.calls) bytes held first silent is (subst (λ (z : Message). SpellsMessage first z) c.in-Batch.is spelled) (refl, λ e. cc)
          (subst (λ (z : List Call). Handling keys ps qs {E = AllocError} (unasked z) silent (Err e)) c.as_slice.ensures d),
    )

pub returns-in_ok-went-in-Request-clause-did : goal.returns-in_ok-went-in-Request-clause-did
returns-in_ok-went-in-Request-clause-did g c =
    let d = c.in_ok-went-in-Request.ensures.did in let m = Request c.in-Request.id c.in-Request.call in
    let fits = request_fits c.requires.spelled.0 c.in-Request.id c.in-Request.call (subst (λ (z : Message). SpellsMessage c.requires.spelled.0 z) c.in-Request.is c.requires.spelled.1) in
    let keys = c.args.service.now.lanes.now.keys in let ps = c.args.passes.now.passes.items in let qs = c.serve_request.new.passes.passes.items in (
      d.0,
      d.1,
      quiet {E = AllocError} _ d.0 (Ok c.in_ok-went-in-Request.went) d.2.says,
      λ bytes held first is spelled. subst (λ (z : Option End). Next keys ps qs {E = AllocError} d.0 bytes held (Ok z)) (sym c.end_behind_reply.ensures)
          (next_handled keys (Ok c.in_ok-went-in-Request.went) ps qs m bytes held first d.0 is (subst (λ (z : Message). SpellsMessage first z) c.in-Request.is spelled) (refl, λ e. cc)
          (subst (λ (z : ℤ). Handling keys ps qs {E = AllocError} (record { id = z; call = c.in-Request.call } ∷ []) d.0 (Ok c.in_ok-went-in-Request.went)) (to_z-of_z fits) d.2)),
    )

pub returns-in_ok-serve_batch-in-Batch-clause-did : goal.returns-in_ok-serve_batch-in-Batch-clause-did
returns-in_ok-serve_batch-in-Batch-clause-did g c =
    let d = c.in_ok-serve_batch-in-Batch.ensures.did in
    let keys = c.args.service.now.lanes.now.keys in let ps = c.args.passes.now.passes.items in let qs = c.serve_batch.new.passes.passes.items in (
      silent,
      sym (adds_nothing (g.L.Link.talk c.args.link.now)),
      refl,
      λ bytes held first is spelled. next_handled keys (Ok true) ps qs (Batch c.in-Batch.calls) bytes held first silent is (subst (λ (z : Message). SpellsMessage first z) c.in-Batch.is spelled) (refl, λ e. cc)
          (subst (λ (z : List Call). Handling keys ps qs {E = AllocError} (unasked z) silent (Ok true)) c.as_slice.ensures d),
    )

pub returns-in-Validate-clause-did : goal.returns-in-Validate-clause-did
returns-in-Validate-clause-did g c = (
  silent,
  sym (adds_nothing (g.L.Link.talk c.args.link.now)),
  refl,
  λ bytes held first is spelled. next_quiet c.args.service.now.lanes.now.keys c.args.passes.now.passes.items Validate bytes held first is (subst (λ (z : Message). SpellsMessage first z) c.in-Validate.is spelled) (refl, λ e. cc) refl,
)

pub returns-in-Close-clause-did : goal.returns-in-Close-clause-did
returns-in-Close-clause-did g c = (
  silent,
  sym (adds_nothing (g.L.Link.talk c.args.link.now)),
  refl,
  λ bytes held first is spelled. next_end c.args.service.now.lanes.now.keys c.args.passes.now.passes.items silent bytes held ends.PeerClosed (held, (first, held, is, subst (λ (z : Message). SpellsMessage first z) c.in-Close.is spelled, refl)) (refl, (refl, tt)),
)
