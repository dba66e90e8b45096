use Rattle.std.proofs.Common.{◌∙◌, true, List, [], refl, sym, subst, inr}
use Rattle.std.specs.Prelude.{ℤ, Option, Ok, Err}
use Rattle.std.proofs.Math.Facts.{to_z-of_z}
use Rattle.std.specs.declared.alloc.AllocError.{AllocError}
use Rattle.std.proofs.lemmas.Result.{err_from_is_err_and}
use Rattle.ice_encoding.specs.Parts.{Each}
use Rattle.ice_ports.specs.Talks.{silent}
use Rattle.ice_messages.specs.declared.message.Call.{Call}
use Rattle.ice_messages.specs.declared.message.Message.{Message}
use Rattle.ice_messages.specs.declared.message.Message.TheVariants.{Request, Batch}
use Rattle.ice_messages.specs.Messages.{SpellsMessage}
use Rattle.talking.proofs.Adding.{adds_nothing}
use Rattle.talking.specs.declared.end.End.{End}
use Rattle.talking.specs.declared.end.End.TheVariants as ends
use Rattle.ice_gateway.specs.Gate.{seen}
use Rattle.ice_gateway.specs.Forwarded.{batch_anew, calls_anew}
use Rattle.ice_gateway.specs.Handled.{DueStarved}
use Rattle.ice_gateway.specs.Laws.{Comes}
use Rattle.ice_gateway.specs.Parts.{Handling, Next, Passed}
use Rattle.ice_gateway.specs.Runs.{net_seen}
use Rattle.talking.proofs.Said.{quiet}
use Rattle.ice_gateway.proofs.Coming.{batch_comes}
use Rattle.ice_gateway.proofs.Handling.{cut_off, passed, request_fits}
use Rattle.ice_gateway.proofs.Runs.{ran_none}
use Rattle.ice_gateway.proofs.Sessions.{next_handled, next_quiet, next_end}
use Rattle.ice_gateway.proofs.session.handle.Goals as goal

pub returns-in-Some-clause-did : goal.returns-in-Some-clause-did
returns-in-Some-clause-did g c = (
  silent,
  [],
  sym (adds_nothing (g.L.Link.talk c.args.link.now)),
  ran_none c.args.gateway.now.upstream.now.endpoints (net_seen (g.N.Net.told c.args.net.now) (g.N.Net.failures c.args.net.now) (g.N.Net.listen_failures c.args.net.now)),
  refl,
  λ bytes held first is spelled. next_end (seen c.args.gateway.now) silent bytes held (ends.PeerBroke c.in-Some.fault) (inr (c.args.message.now, (held, (first, held, is, spelled, refl)), sym c.server_fault.ensures ∙ c.in-Some.is)) (refl, (refl, tt)),
)

pub handle_request-requires-clause-came : goal.handle_request-requires-clause-came
handle_request-requires-clause-came g c κs lives =
    let first = c.requires.spelled.0 in let id = c.in-Request.id in let call = c.in-Request.call in
    let spelled = subst (λ (z : Message). SpellsMessage first z) c.in-Request.is c.requires.spelled.1 in
    (first, subst (λ (z : ℤ). SpellsMessage first (Request z call)) (sym (to_z-of_z (request_fits first id call spelled))) spelled)

pub returns-in_err-went-in-Request-clause-did : goal.returns-in_err-went-in-Request-clause-did
returns-in_err-went-in-Request-clause-did g c =
    let failed = err_from_is_err_and c.from_residual.result c.from_residual.ensures.1 in
    let e = c.in_err-went-in-Request.field-0.0 in let d = c.in_err-went-in-Request.ensures.did in
    let m = Request c.in-Request.id c.in-Request.call in
    let gate = seen c.args.gateway.now in
    let fits = request_fits c.requires.spelled.0 c.in-Request.id c.in-Request.call (subst (λ (z : Message). SpellsMessage c.requires.spelled.0 z) c.in-Request.is c.requires.spelled.1) in
    rw failed.1 (
      d.0,
      d.1,
      d.2,
      d.3,
      quiet [] d.0 (Err e) d.4.says,
      λ bytes held first is spelled. next_handled gate (Err e) d.1 m bytes held first d.0 is (subst (λ (z : Message). SpellsMessage first z) c.in-Request.is spelled) (refl, λ e. cc)
          (subst (λ (z : ℤ). Handling {E = AllocError} gate (Request z c.in-Request.call) d.1 d.0 (Err e)) (to_z-of_z fits) d.4),
    )

pub returns-in_ok-went-in-Request-clause-did : goal.returns-in_ok-went-in-Request-clause-did
returns-in_ok-went-in-Request-clause-did g c =
    let d = c.in_ok-went-in-Request.ensures.did in let m = Request c.in-Request.id c.in-Request.call in
    let gate = seen c.args.gateway.now in
    let fits = request_fits c.requires.spelled.0 c.in-Request.id c.in-Request.call (subst (λ (z : Message). SpellsMessage c.requires.spelled.0 z) c.in-Request.is c.requires.spelled.1) in (
      d.0,
      d.1,
      d.2,
      d.3,
      quiet {E = AllocError} _ d.0 (Ok c.in_ok-went-in-Request.went) d.4.says,
      λ bytes held first is spelled. subst (λ (z : Option End). Next {E = AllocError} gate d.1 d.0 bytes held (Ok z)) (sym c.end_behind_reply.ensures)
          (next_handled gate (Ok c.in_ok-went-in-Request.went) d.1 m bytes held first d.0 is (subst (λ (z : Message). SpellsMessage first z) c.in-Request.is spelled) (refl, λ e. cc)
          (subst (λ (z : ℤ). Handling {E = AllocError} gate (Request z c.in-Request.call) d.1 d.0 (Ok c.in_ok-went-in-Request.went)) (to_z-of_z fits) d.4)),
    )

pub forward_batch-requires-clause-come : goal.forward_batch-requires-clause-come
forward_batch-requires-clause-come g c κs lives = subst (Each Comes) (sym c.as_slice.ensures)
    (batch_comes c.requires.spelled.0 c.in-Batch.calls (subst (λ (z : Message). SpellsMessage c.requires.spelled.0 z) c.in-Batch.is c.requires.spelled.1))

pub returns-in_err-forward_batch-in-Batch-clause-did : goal.returns-in_err-forward_batch-in-Batch-clause-did
returns-in_err-forward_batch-in-Batch-clause-did g c =
    let failed = err_from_is_err_and c.from_residual-in_err-forward_batch-in-Batch.result c.from_residual-in_err-forward_batch-in-Batch.ensures.1 in
    let e = c.in_err-forward_batch-in-Batch.field-0.0 in let told = c.in_err-forward_batch-in-Batch.ensures.told in
    let gate = seen c.args.gateway.now in
    rw failed.1 (
      silent,
      told.0,
      sym (adds_nothing (g.L.Link.talk c.args.link.now)),
      told.1,
      refl,
      λ bytes held first is spelled. next_handled gate (Err e) told.0 (Batch c.in-Batch.calls) bytes held first silent is (subst (λ (z : Message). SpellsMessage first z) c.in-Batch.is spelled) (refl, λ e. cc)
          (cut_off gate (Batch c.in-Batch.calls) told.0 e (subst (λ (z : List Call). DueStarved gate (batch_anew gate (calls_anew gate z)) told.0) c.as_slice.ensures told.2)),
    )

pub returns-in_ok-forward_batch-in-Batch-clause-did : goal.returns-in_ok-forward_batch-in-Batch-clause-did
returns-in_ok-forward_batch-in-Batch-clause-did g c =
    let told = c.in_ok-forward_batch-in-Batch.ensures.told in
    let gate = seen c.args.gateway.now in (
      silent,
      told.0,
      sym (adds_nothing (g.L.Link.talk c.args.link.now)),
      told.1,
      refl,
      λ bytes held first is spelled. next_handled gate {E = AllocError} (Ok true) told.0 (Batch c.in-Batch.calls) bytes held first silent is (subst (λ (z : Message). SpellsMessage first z) c.in-Batch.is spelled) (refl, λ e. cc)
          (passed {E = AllocError} gate (Batch c.in-Batch.calls) (batch_anew gate (calls_anew gate c.in-Batch.calls)) told.0 refl (λ o. refl)
          (subst (λ (z : List Call). Passed gate (batch_anew gate (calls_anew gate z)) told.0) c.as_slice.ensures told.2)),
    )

pub returns-in-Validate-clause-did : goal.returns-in-Validate-clause-did
returns-in-Validate-clause-did g c = (
  silent,
  [],
  sym (adds_nothing (g.L.Link.talk c.args.link.now)),
  ran_none c.args.gateway.now.upstream.now.endpoints (net_seen (g.N.Net.told c.args.net.now) (g.N.Net.failures c.args.net.now) (g.N.Net.listen_failures c.args.net.now)),
  refl,
  λ bytes held first is spelled. next_quiet (seen c.args.gateway.now) bytes held first is (subst (λ (z : Message). SpellsMessage first z) c.in-Validate.is spelled),
)

pub returns-in-Close-clause-did : goal.returns-in-Close-clause-did
returns-in-Close-clause-did g c = (
  silent,
  [],
  sym (adds_nothing (g.L.Link.talk c.args.link.now)),
  ran_none c.args.gateway.now.upstream.now.endpoints (net_seen (g.N.Net.told c.args.net.now) (g.N.Net.failures c.args.net.now) (g.N.Net.listen_failures c.args.net.now)),
  refl,
  λ bytes held first is spelled. next_end (seen c.args.gateway.now) silent bytes held ends.PeerClosed (held, (first, held, is, subst (λ (z : Message). SpellsMessage first z) c.in-Close.is spelled, refl)) (refl, (refl, tt)),
)
