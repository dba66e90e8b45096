use Rattle.std.proofs.Common.{ℕ, Bool, [], ◌∷◌, subst}
use Rattle.std.specs.Prelude.{Option, Ok}
use Rattle.std.specs.declared.alloc.AllocError.{AllocError}
use Rattle.std.proofs.lemmas.Result.{err_from_is_err_and}
use Rattle.ice_ports.specs.Talks.{and_then}
use Rattle.ice_messages.specs.declared.message.Message.TheVariants.{Close}
use Rattle.talking.proofs.Adding.{adds_then}
use Rattle.talking.specs.declared.end.End.{End}
use Rattle.talking.specs.Said.{Says}
use Rattle.dispatch_pool.specs.Parts.{Took}
use Rattle.dispatch_pool.proofs.Sessions.{enough, not_said, starved_last}
use Rattle.dispatch_pool.proofs.session.serve.Goals as goal

pub returns-in_err-end-clause-did : goal.returns-in_err-end-clause-did
returns-in_err-end-clause-did g c =
    let failed = err_from_is_err_and c.from_residual.result c.from_residual.ensures.1 in
    let d = c.in_err-end.ensures.did in
    rw failed.1 (d.0, d.2.0, d.1, d.2.1, d.2.2)

pub returns-in-Some-clause-did : goal.returns-in-Some-clause-did
returns-in-Some-clause-did g c =
    let d = c.in_ok-end.ensures.did in
    let keys = c.args.service.now.lanes.now.keys in let ps = c.args.passes.now.passes.items in let qs = c.take_all-taken.new.passes.passes.items in
    let x = subst (λ (z : Option End). Took keys ps qs {E = AllocError} c.args.messages d.0 c.take_all-taken.new.frames.bytes (Ok z)) c.in-Some.is d.2 in
    (d.0, x.0, d.1, x.1, x.2)

pub returns-in_err-say-clause-did : goal.returns-in_err-say-clause-did
returns-in_err-say-clause-did g c =
    let failed = err_from_is_err_and c.from_residual-in_err-say.result c.from_residual-in_err-say.ensures.1 in
    let first = c.in_ok-end.ensures.did in let d = c.in_err-say.ensures.did in
    let keys = c.args.service.now.lanes.now.keys in let ps = c.args.passes.now.passes.items in let qs = c.take_all-taken.new.passes.passes.items in
    let held = c.take_all-taken.new.frames.bytes in
    let p = subst (λ (z : Option End). Took keys ps qs {E = AllocError} c.args.messages first.0 held (Ok z)) c.in_default.is first.2 in
    let x = starved_last keys c.args.messages ps qs first.0 d.0 held p AllocError c.in_err-say.field-0.0 d.2 in
    rw failed.1 (and_then first.0 d.0, x.0, adds_then (g.L.Link.talk c.args.link.now) (g.L.Link.talk c.take_all-taken.new.link) _ first.0 d.0 first.1 d.1, x.1, x.2)

pub returns-then-branch-clause-did : goal.returns-then-branch-clause-did
returns-then-branch-clause-did g c =
    let first = c.in_ok-end.ensures.did in let d = c.in_ok-say.ensures.did in
    let keys = c.args.service.now.lanes.now.keys in let ps = c.args.passes.now.passes.items in let qs = c.take_all-taken.new.passes.passes.items in
    let held = c.take_all-taken.new.frames.bytes in
    let p = subst (λ (z : Option End). Took keys ps qs {E = AllocError} c.args.messages first.0 held (Ok z)) c.in_default.is first.2 in
    let said = subst (λ (b : Bool). Says {E = AllocError} (Close ∷ []) d.0 (Ok b)) c.if-branch.true d.2 in
    let x = enough keys c.args.messages ps qs first.0 d.0 held p AllocError said in
    (and_then first.0 d.0, x.0, adds_then (g.L.Link.talk c.args.link.now) (g.L.Link.talk c.take_all-taken.new.link) _ first.0 d.0 first.1 d.1, x.1, x.2)

pub returns-else-branch-clause-did : goal.returns-else-branch-clause-did
returns-else-branch-clause-did g c =
    let first = c.in_ok-end.ensures.did in let d = c.in_ok-say.ensures.did in
    let keys = c.args.service.now.lanes.now.keys in let ps = c.args.passes.now.passes.items in let qs = c.take_all-taken.new.passes.passes.items in
    let held = c.take_all-taken.new.frames.bytes in
    let p = subst (λ (z : Option End). Took keys ps qs {E = AllocError} c.args.messages first.0 held (Ok z)) c.in_default.is first.2 in
    let said = subst (λ (b : Bool). Says {E = AllocError} (Close ∷ []) d.0 (Ok b)) c.if-branch.false d.2 in
    let x = not_said keys c.args.messages ps qs first.0 d.0 held p AllocError said in
    (and_then first.0 d.0, x.0, adds_then (g.L.Link.talk c.args.link.now) (g.L.Link.talk c.take_all-taken.new.link) _ first.0 d.0 first.1 d.1, x.1, x.2)
