use Rattle.std.proofs.Common.{◌≡◌, ◌∙◌, ℕ, Bool, [], ◌∷◌, ◌++◌, refl, sym, subst, arith}
use Rattle.std.specs.Prelude.{Option, Ok}
use Rattle.std.specs.declared.alloc.AllocError.{AllocError}
use Rattle.std.proofs.lemmas.Result.{err_from_is_err_and}
use Rattle.ice_ports.specs.Talks.{and_then}
use Rattle.ice_messages.specs.declared.message.Message.TheVariants.{Validate, Close}
use Rattle.ice_messages.specs.Framing.{Held, nothing_held}
use Rattle.talking.specs.Hearing.{IsGoing}
use Rattle.talking.proofs.Adding.{adds_then}
use Rattle.talking.specs.declared.end.End.{End}
use Rattle.talking.specs.Said.{Says, Counts, fails_said}
use Rattle.talking.specs.Ends.{fails_next}
use Rattle.ice_gateway.specs.Gate.{seen}
use Rattle.ice_gateway.specs.Runs.{net_seen}
use Rattle.ice_gateway.specs.Parts.{Next, Part}
use Rattle.ice_gateway.proofs.Runs.{ran_none, ran_then}
use Rattle.ice_gateway.proofs.Sessions.{part_begun, part_more, ended, starves, enough, not_said, starved_last, no_validate, starved_first}
use Rattle.ice_gateway.proofs.session.handle_all.Goals as goal

fresh : IsGoing nothing_held
fresh = record { going = refl; fits = λ i. omega arith }

pub returns-in_err-say-clause-did : goal.returns-in_err-say-clause-did
returns-in_err-say-clause-did g c =
    let failed = err_from_is_err_and c.from_residual.result c.from_residual.ensures.1 in
    let d = c.in_err-say.ensures.did in
    let net = net_seen (g.N.Net.told c.args.net.now) (g.N.Net.failures c.args.net.now) (g.N.Net.listen_failures c.args.net.now) in
    rw failed.1 (d.0, [], d.1, ran_none c.args.gateway.now.upstream.now.endpoints net, starved_first (seen c.args.gateway.now) AllocError c.in_err-say.field-0.0 c.args.messages d.0 d.2)

pub returns-then-not-branch-clause-did : goal.returns-then-not-branch-clause-did
returns-then-not-branch-clause-did g c =
    let d = c.in_ok-say.ensures.did in
    let net = net_seen (g.N.Net.told c.args.net.now) (g.N.Net.failures c.args.net.now) (g.N.Net.listen_failures c.args.net.now) in
    let said = subst (λ (b : Bool). Says {E = AllocError} (Validate ∷ []) d.0 (Ok b)) c.if-not-branch.true d.2 in
    (d.0, [], d.1, ran_none c.args.gateway.now.upstream.now.endpoints net, no_validate (seen c.args.gateway.now) AllocError c.args.messages d.0 said)

pub loop-taken-init : goal.loop-taken-init
loop-taken-init g c =
    let d = c.in_ok-say.ensures.did in
    let gate = seen c.args.gateway.now in
    let net = net_seen (g.N.Net.told c.args.net.now) (g.N.Net.failures c.args.net.now) (g.N.Net.listen_failures c.args.net.now) in
    let said = subst (λ (b : Bool). Says {E = AllocError} (Validate ∷ []) d.0 (Ok b)) c.if-not-branch.false d.2 in
    let old : ℕ × ℕ = (g.L.Source.failures c.args.link.now, g.L.Sink.failures c.args.link.now) in
    let new : ℕ × ℕ = (g.L.Source.failures c.say.new.link, g.L.Sink.failures c.say.new.link) in
    record {
      going = subst (λ (h : Held). IsGoing h) (sym c.new-frames.ensures) fresh;
      did = (d.0, [], d.1, ran_none gate.endpoints net, subst (λ (h : Held). Part gate [] d.0 h.bytes 0) (sym c.new-frames.ensures) (part_begun gate AllocError d.0 said));
      counts = subst (λ (b : Bool). Counts (fails_said {E = AllocError} (Ok b)) old new) c.if-not-branch.false c.in_ok-say.ensures.counts;
    }

pub loop-taken-preserved : goal.loop-taken-preserved
loop-taken-preserved g c =
    let i = c.loop-taken.invariant in let d = c.in_ok-end.ensures.did in
    let gate = seen c.args.gateway.now in
    let mid : ℕ × ℕ = (g.L.Source.failures c.loop-taken.link, g.L.Sink.failures c.loop-taken.link) in
    let new : ℕ × ℕ = (g.L.Source.failures c.handle_next.new.link, g.L.Sink.failures c.handle_next.new.link) in
    let start = net_seen (g.N.Net.told c.args.net.now) (g.N.Net.failures c.args.net.now) (g.N.Net.listen_failures c.args.net.now) in
    let later = net_seen (g.N.Net.told c.loop-taken.net) (g.N.Net.failures c.loop-taken.net) (g.N.Net.listen_failures c.loop-taken.net) in
    let now = net_seen (g.N.Net.told c.handle_next.new.net) (g.N.Net.failures c.handle_next.new.net) (g.N.Net.listen_failures c.handle_next.new.net) in
    let none = c.in_default.is in
    let next = subst (λ (z : Option End). Next {E = AllocError} gate d.1 d.0 (c.loop-taken.frames.bytes ++ d.0.given) c.handle_next.new.frames.bytes (Ok z)) none d.4 in
    record {
      going = c.in_ok-end.ensures.going none;
      did = (
        and_then i.did.0 d.0,
        i.did.1 ++ d.1,
        adds_then (g.L.Link.talk c.args.link.now) (g.L.Link.talk c.loop-taken.link) (g.L.Link.talk c.handle_next.new.link) i.did.0 d.0 i.did.2 d.2,
        ran_then gate.endpoints i.did.1 d.1 start later now i.did.3 d.3,
        part_more gate AllocError i.did.1 d.1 i.did.0 d.0 c.loop-taken.frames.bytes c.handle_next.new.frames.bytes c.loop-taken.taken i.did.4 next,
      );
      counts = subst (λ (z : Option End). Counts (fails_next {E = AllocError} (Ok z)) mid new) none c.in_ok-end.ensures.counts ∙ i.counts;
    }

pub returns-in_err-end-clause-did : goal.returns-in_err-end-clause-did
returns-in_err-end-clause-did g c =
    let failed = err_from_is_err_and c.from_residual-in_err-end.result c.from_residual-in_err-end.ensures.1 in
    let i = c.loop-taken.invariant in let d = c.in_err-end.ensures.did in
    let gate = seen c.args.gateway.now in
    let start = net_seen (g.N.Net.told c.args.net.now) (g.N.Net.failures c.args.net.now) (g.N.Net.listen_failures c.args.net.now) in
    let later = net_seen (g.N.Net.told c.loop-taken.net) (g.N.Net.failures c.loop-taken.net) (g.N.Net.listen_failures c.loop-taken.net) in
    let now = net_seen (g.N.Net.told c.handle_next.new.net) (g.N.Net.failures c.handle_next.new.net) (g.N.Net.listen_failures c.handle_next.new.net) in
    rw failed.1 (
      and_then i.did.0 d.0,
      i.did.1 ++ d.1,
      adds_then (g.L.Link.talk c.args.link.now) (g.L.Link.talk c.loop-taken.link) _ i.did.0 d.0 i.did.2 d.2,
      ran_then gate.endpoints i.did.1 d.1 start later now i.did.3 d.3,
      starves gate c.args.messages c.loop-taken.taken i.did.1 d.1 i.did.0 d.0 c.loop-taken.frames.bytes c.handle_next.new.frames.bytes i.did.4 AllocError c.in_err-end.field-0.0 c.loop-taken-test.true d.4,
    )

pub returns-in-Some-clause-did : goal.returns-in-Some-clause-did
returns-in-Some-clause-did g c =
    let i = c.loop-taken.invariant in let d = c.in_ok-end.ensures.did in
    let gate = seen c.args.gateway.now in
    let start = net_seen (g.N.Net.told c.args.net.now) (g.N.Net.failures c.args.net.now) (g.N.Net.listen_failures c.args.net.now) in
    let later = net_seen (g.N.Net.told c.loop-taken.net) (g.N.Net.failures c.loop-taken.net) (g.N.Net.listen_failures c.loop-taken.net) in
    let now = net_seen (g.N.Net.told c.handle_next.new.net) (g.N.Net.failures c.handle_next.new.net) (g.N.Net.listen_failures c.handle_next.new.net) in
    let next = subst (λ (z : Option End). Next {E = AllocError} gate d.1 d.0 (c.loop-taken.frames.bytes ++ d.0.given) c.handle_next.new.frames.bytes (Ok z)) c.in-Some.is d.4 in (
      and_then i.did.0 d.0,
      i.did.1 ++ d.1,
      adds_then (g.L.Link.talk c.args.link.now) (g.L.Link.talk c.loop-taken.link) (g.L.Link.talk c.handle_next.new.link) i.did.0 d.0 i.did.2 d.2,
      ran_then gate.endpoints i.did.1 d.1 start later now i.did.3 d.3,
      ended gate c.args.messages c.loop-taken.taken i.did.1 d.1 i.did.0 d.0 c.loop-taken.frames.bytes c.handle_next.new.frames.bytes i.did.4 AllocError c.in-Some.end c.loop-taken-test.true next,
    )

pub returns-in_err-say-2-clause-did : goal.returns-in_err-say-2-clause-did
returns-in_err-say-2-clause-did g c =
    let failed = err_from_is_err_and c.from_residual-in_err-say-2.result c.from_residual-in_err-say-2.ensures.1 in
    let i = c.loop-taken.invariant in let d = c.in_err-say-2.ensures.did in
    let gate = seen c.args.gateway.now in
    let all : c.loop-taken.taken ≡ c.args.messages = (let a = c.loop-taken-test.false in let b = c.loop-taken.auto.taken-end in omega arith) in
    let p = subst (λ (n : ℕ). Part gate i.did.1 i.did.0 c.loop-taken.frames.bytes n) all i.did.4 in
    rw failed.1 (
      and_then i.did.0 d.0,
      i.did.1,
      adds_then (g.L.Link.talk c.args.link.now) (g.L.Link.talk c.loop-taken.link) _ i.did.0 d.0 i.did.2 d.1,
      i.did.3,
      starved_last gate c.args.messages i.did.1 i.did.0 d.0 c.loop-taken.frames.bytes p AllocError c.in_err-say-2.field-0.0 d.2,
    )

pub returns-then-branch-clause-did : goal.returns-then-branch-clause-did
returns-then-branch-clause-did g c =
    let i = c.loop-taken.invariant in let d = c.in_ok-say-2.ensures.did in
    let gate = seen c.args.gateway.now in
    let all : c.loop-taken.taken ≡ c.args.messages = (let a = c.loop-taken-test.false in let b = c.loop-taken.auto.taken-end in omega arith) in
    let p = subst (λ (n : ℕ). Part gate i.did.1 i.did.0 c.loop-taken.frames.bytes n) all i.did.4 in
    let said = subst (λ (b : Bool). Says {E = AllocError} (Close ∷ []) d.0 (Ok b)) c.if-branch.true d.2 in (
      and_then i.did.0 d.0,
      i.did.1,
      adds_then (g.L.Link.talk c.args.link.now) (g.L.Link.talk c.loop-taken.link) _ i.did.0 d.0 i.did.2 d.1,
      i.did.3,
      enough gate c.args.messages i.did.1 i.did.0 d.0 c.loop-taken.frames.bytes p AllocError said,
    )

pub returns-clause-did : goal.returns-clause-did
returns-clause-did g c =
    let i = c.loop-taken.invariant in let d = c.in_ok-say-2.ensures.did in
    let gate = seen c.args.gateway.now in
    let all : c.loop-taken.taken ≡ c.args.messages = (let a = c.loop-taken-test.false in let b = c.loop-taken.auto.taken-end in omega arith) in
    let p = subst (λ (n : ℕ). Part gate i.did.1 i.did.0 c.loop-taken.frames.bytes n) all i.did.4 in
    let said = subst (λ (b : Bool). Says {E = AllocError} (Close ∷ []) d.0 (Ok b)) c.if-branch.false d.2 in (
      and_then i.did.0 d.0,
      i.did.1,
      adds_then (g.L.Link.talk c.args.link.now) (g.L.Link.talk c.loop-taken.link) _ i.did.0 d.0 i.did.2 d.1,
      i.did.3,
      not_said gate c.args.messages i.did.1 i.did.0 d.0 c.loop-taken.frames.bytes p AllocError said,
    )
