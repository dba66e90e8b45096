use Rattle.std.proofs.Common.{◌≡◌, ◌∙◌, ℕ, Bool, [], ◌∷◌, ◌++◌, refl, sym, subst, arith}
use Rattle.std.specs.Prelude.{Option, Ok}
use Rattle.std.specs.declared.alloc.AllocError.{AllocError}
use Rattle.std.proofs.lemmas.Result.{err_from_is_err_and}
use Rattle.ice_ports.specs.Talks.{and_then}
use Rattle.ice_messages.specs.declared.message.Message.TheVariants.{Validate}
use Rattle.ice_messages.specs.Framing.{Held, nothing_held}
use Rattle.talking.specs.Hearing.{IsGoing}
use Rattle.talking.proofs.Adding.{adds_then}
use Rattle.talking.specs.declared.end.End.{End}
use Rattle.talking.specs.Said.{Says, Counts, fails_said}
use Rattle.talking.specs.Ends.{fails_next}
use Rattle.dispatch_pool.specs.Parts.{Next, Part}
use Rattle.dispatch_pool.proofs.Sessions.{part_begun, part_more, ended, starves, no_validate, starved_first}
use Rattle.dispatch_pool.proofs.session.take_all.Goals as goal

fresh : IsGoing nothing_held
fresh = record { going = refl; fits = λ i. omega arith }

pub returns-in_err-say-clause-did : goal.returns-in_err-say-clause-did
returns-in_err-say-clause-did g c =
    let failed = err_from_is_err_and c.from_residual.result c.from_residual.ensures.1 in
    let d = c.in_err-say.ensures.did in
    rw failed.1 (d.0, d.1, starved_first c.args.service.now.lanes.now.keys AllocError c.in_err-say.field-0.0 c.args.messages c.args.passes.now.passes.items d.0 d.2)

pub returns-then-not-branch-clause-did : goal.returns-then-not-branch-clause-did
returns-then-not-branch-clause-did g c =
    let d = c.in_ok-say.ensures.did in
    let said = subst (λ (b : Bool). Says {E = AllocError} (Validate ∷ []) d.0 (Ok b)) c.if-not-branch.true d.2 in
    (d.0, d.1, no_validate c.args.service.now.lanes.now.keys AllocError c.args.messages c.args.passes.now.passes.items d.0 said)

pub loop-taken-init : goal.loop-taken-init
loop-taken-init g c =
    let d = c.in_ok-say.ensures.did in
    let keys = c.args.service.now.lanes.now.keys in let ps = c.args.passes.now.passes.items in
    let said = subst (λ (b : Bool). Says {E = AllocError} (Validate ∷ []) d.0 (Ok b)) c.if-not-branch.false d.2 in
    let old : ℕ × ℕ = (g.L.Source.failures c.args.link.now, g.L.Sink.failures c.args.link.now) in
    let new : ℕ × ℕ = (g.L.Source.failures c.say.new.link, g.L.Sink.failures c.say.new.link) in
    record {
      of = c.requires.of;
      state = c.requires.reading;
      going = subst (λ (h : Held). IsGoing h) (sym c.requires.fresh) fresh;
      did = (d.0, d.1, subst (λ (h : Held). Part keys ps ps d.0 h.bytes 0) (sym c.requires.fresh) (part_begun keys AllocError ps d.0 said));
      counts = subst (λ (b : Bool). Counts (fails_said {E = AllocError} (Ok b)) old new) c.if-not-branch.false c.in_ok-say.ensures.counts;
    }

pub loop-taken-preserved : goal.loop-taken-preserved
loop-taken-preserved g c =
    let i = c.loop-taken.invariant in let d = c.in_ok-end.ensures.did in
    let keys = c.args.service.now.lanes.now.keys in let ps = c.args.passes.now.passes.items in let qs = c.loop-taken.passes.passes.items in let rs = c.serve_next.new.passes.passes.items in
    let mid : ℕ × ℕ = (g.L.Source.failures c.loop-taken.link, g.L.Sink.failures c.loop-taken.link) in
    let new : ℕ × ℕ = (g.L.Source.failures c.serve_next.new.link, g.L.Sink.failures c.serve_next.new.link) in
    let none = c.in_default.is in
    let next = subst (λ (z : Option End). Next keys qs rs {E = AllocError} d.0 (c.loop-taken.frames.bytes ++ d.0.given) c.serve_next.new.frames.bytes (Ok z)) none d.2 in
    record {
      of = c.serve_next.ensures.of;
      state = c.in_ok-end.ensures.state none;
      going = c.in_ok-end.ensures.going none;
      did = (
        and_then i.did.0 d.0,
        adds_then (g.L.Link.talk c.args.link.now) (g.L.Link.talk c.loop-taken.link) (g.L.Link.talk c.serve_next.new.link) i.did.0 d.0 i.did.1 d.1,
        part_more keys AllocError ps qs rs i.did.0 d.0 c.loop-taken.frames.bytes c.serve_next.new.frames.bytes c.loop-taken.taken i.did.2 next,
      );
      counts = subst (λ (z : Option End). Counts (fails_next {E = AllocError} (Ok z)) mid new) none c.in_ok-end.ensures.counts ∙ i.counts;
    }

pub returns-in_err-end-clause-did : goal.returns-in_err-end-clause-did
returns-in_err-end-clause-did g c =
    let failed = err_from_is_err_and c.from_residual-in_err-end.result c.from_residual-in_err-end.ensures.1 in
    let i = c.loop-taken.invariant in let d = c.in_err-end.ensures.did in
    let keys = c.args.service.now.lanes.now.keys in let ps = c.args.passes.now.passes.items in let qs = c.loop-taken.passes.passes.items in let rs = c.serve_next.new.passes.passes.items in
    rw failed.1 (
      and_then i.did.0 d.0,
      adds_then (g.L.Link.talk c.args.link.now) (g.L.Link.talk c.loop-taken.link) (g.L.Link.talk c.serve_next.new.link) i.did.0 d.0 i.did.1 d.1,
      starves keys c.args.messages c.loop-taken.taken ps qs rs i.did.0 d.0 c.loop-taken.frames.bytes c.serve_next.new.frames.bytes i.did.2 AllocError c.in_err-end.field-0.0 c.loop-taken-test.true d.2,
    )

pub returns-in-Some-clause-did : goal.returns-in-Some-clause-did
returns-in-Some-clause-did g c =
    let i = c.loop-taken.invariant in let d = c.in_ok-end.ensures.did in
    let keys = c.args.service.now.lanes.now.keys in let ps = c.args.passes.now.passes.items in let qs = c.loop-taken.passes.passes.items in let rs = c.serve_next.new.passes.passes.items in
    let next = subst (λ (z : Option End). Next keys qs rs {E = AllocError} d.0 (c.loop-taken.frames.bytes ++ d.0.given) c.serve_next.new.frames.bytes (Ok z)) c.in-Some.is d.2 in (
      and_then i.did.0 d.0,
      adds_then (g.L.Link.talk c.args.link.now) (g.L.Link.talk c.loop-taken.link) (g.L.Link.talk c.serve_next.new.link) i.did.0 d.0 i.did.1 d.1,
      ended keys c.args.messages c.loop-taken.taken ps qs rs i.did.0 d.0 c.loop-taken.frames.bytes c.serve_next.new.frames.bytes i.did.2 AllocError c.in-Some.end c.loop-taken-test.true next,
    )

pub returns-clause-did : goal.returns-clause-did
returns-clause-did g c =
    let i = c.loop-taken.invariant in
    let all : c.loop-taken.taken ≡ c.args.messages = (let a = c.loop-taken-test.false in let b = c.loop-taken.auto.taken-end in omega arith) in
    (i.did.0, i.did.1, subst (λ (n : ℕ). Part c.args.service.now.lanes.now.keys c.args.passes.now.passes.items c.loop-taken.passes.passes.items i.did.0 c.loop-taken.frames.bytes n) all i.did.2)
