use Rattle.std.proofs.Common.{ℤ, ◌∷◌, [], sym, subst}
use Rattle.std.specs.declared.alloc.AllocError.{AllocError}
use Rattle.std.proofs.lemmas.Result.{err_from_is_err_and}
use Rattle.std.proofs.Math.Facts.{to_z-of_z}
use Rattle.ice_ports.specs.Talks.{silent}
use Rattle.ice_messages.specs.declared.message.Message.TheVariants.{Reply}
use Rattle.ice_messages.proofs.Writable.{answer_writable}
use Rattle.object_adapter.specs.Replies.{KeepsLimit}
use Rattle.talking.proofs.Adding.{adds_nothing}
use Rattle.talking.specs.Said.{Says}
use Rattle.ice_gateway.specs.Gate.{seen}
use Rattle.ice_gateway.proofs.Coming.{request_comes}
use Rattle.ice_gateway.proofs.Handling.{id_zero, id_some, oneway_passed, oneway_cut_off, request_cut_off, request_answered}
use Rattle.ice_gateway.proofs.session.handle_request.Goals as goal

pub forward_oneway-requires-clause-comes : goal.forward_oneway-requires-clause-comes
forward_oneway-requires-clause-comes g c κs lives = request_comes c.requires.came.0 c.args.id c.args.call.now c.requires.came.1

pub answer_request-requires-clause-comes : goal.answer_request-requires-clause-comes
answer_request-requires-clause-comes g c κs lives = request_comes c.requires.came.0 c.args.id c.args.call.now c.requires.came.1

pub returns-in_err-forward_oneway-clause-did : goal.returns-in_err-forward_oneway-clause-did
returns-in_err-forward_oneway-clause-did g c =
    let failed = err_from_is_err_and c.from_residual.result c.from_residual.ensures.1 in
    let told = c.in_err-forward_oneway.ensures.told in
    rw failed.1 (
      silent,
      told.0,
      sym (adds_nothing (g.L.Link.talk c.args.link.now)),
      told.1,
      oneway_cut_off (seen c.args.gateway.now) c.args.id c.args.call.now told.0 c.in_err-forward_oneway.field-0.0 (id_zero c.args.id c.ranges.id c.if-id-eq0.true) told.2,
    )

pub returns-then-id-eq0-clause-did : goal.returns-then-id-eq0-clause-did
returns-then-id-eq0-clause-did g c =
    let told = c.in_ok-forward_oneway.ensures.told in (
      silent,
      told.0,
      sym (adds_nothing (g.L.Link.talk c.args.link.now)),
      told.1,
      oneway_passed {E = AllocError} (seen c.args.gateway.now) c.args.id c.args.call.now told.0 (id_zero c.args.id c.ranges.id c.if-id-eq0.true) told.2,
    )

pub returns-in_err-answer-clause-did : goal.returns-in_err-answer-clause-did
returns-in_err-answer-clause-did g c =
    let failed = err_from_is_err_and c.from_residual-in_err-answer.result c.from_residual-in_err-answer.ensures.1 in
    let told = c.in_err-answer.ensures.told in
    rw failed.1 (
      silent,
      told.0,
      sym (adds_nothing (g.L.Link.talk c.args.link.now)),
      told.1,
      request_cut_off (seen c.args.gateway.now) c.args.id c.args.call.now told.0 c.in_err-answer.field-0.0 (id_some c.args.id c.if-id-eq0.false) told.2,
    )

pub say-requires-clause-writable : goal.say-requires-clause-writable
say-requires-clause-writable g c κs lives = answer_writable c.in_ok-answer.answer c.in_ok-answer.ensures.replies.0

pub say-requires-clause-short : goal.say-requires-clause-short
say-requires-clause-short g c κs lives =
    let answer = c.in_ok-answer.answer in
    subst (λ (z : ℤ). KeepsLimit (Reply z answer)) (sym (to_z-of_z c.ranges.id)) (c.in_ok-answer.ensures.replies.1 c.requires.came.0 c.args.id c.args.id c.requires.came.1)

pub returns-clause-did : goal.returns-clause-did
returns-clause-did g c =
    let told = c.in_ok-answer.ensures.told in
    let did = c.say.ensures.did in
    let answer = c.in_ok-answer.answer in (
      did.0,
      told.0,
      did.1,
      told.1,
      request_answered (seen c.args.gateway.now) c.args.id c.args.call.now told.0 answer did.0 c.say.result (id_some c.args.id c.if-id-eq0.false) told.2
          (subst (λ (z : ℤ). Says (Reply z answer ∷ []) did.0 c.say.result) (to_z-of_z c.ranges.id) did.2),
    )
