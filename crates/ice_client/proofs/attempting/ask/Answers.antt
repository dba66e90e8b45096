use Rattle.std.proofs.Common.{rules, ◌≡◌, ◌<◌, ◌∙◌, ℕ, length, ap, arith}
use Rattle.std.specs.Prelude.{nat_lt}
use Rattle.std.proofs.lemmas.Result.{err_from_is_err_and}
use Rattle.std.specs.declared.alloc.AllocError.{AllocError}
use Rattle.ice_ports.specs.Failures.{count_after}
use Rattle.ice_ports.specs.Talks.{adds, and_then}
use Rattle.talking.specs.Writing.{writes_part}
use Rattle.talking.proofs.Adding.{adds_then}
use Rattle.ice_client.proofs.Rowed.{count_writes, count_both, asks_cut, asks_none, asks_reply, asks_starved, reply_comes}
use Rattle.ice_client.proofs.attempting.ask.Goals as goal

pub returns-then-taken-len : goal.returns-then-taken-len
returns-then-taken-len g c =
    let o = c.args.outgoing.now in
    let n = c.write_bytes-taken.result in
    let less : n < length o.bytes = search rules in
    record {
      talk = (
        writes_part o.bytes n,
        search rules,
        count_writes (g.L.Source.failures c.write_bytes-taken.new.link) (g.L.Sink.failures c.write_bytes-taken.new.link) (nat_lt n (length o.bytes)) (c.write_bytes-taken.ensures.reads ∙ c.requires.reads) (search rules),
        asks_cut AllocError o c.args.cached c.args.frames.now n c.args.client.now c.step-action.new.self c.requires.made c.requires.state c.step-action.ensures.state c.over.new.client c.over.result less c.over.ensures,
      );
    }

pub returns-then-not-outgoing : goal.returns-then-not-outgoing
returns-then-not-outgoing g c =
    let o = c.args.outgoing.now in
    let n = c.write_bytes-taken.result in
    let same : n ≡ length o.bytes = omega (arith, c.if-taken-len.false, c.len.ensures, c.write_bytes-taken.ensures.most, ap length c.as_slice.ensures) in
    record {
      talk = (
        writes_part o.bytes n,
        search rules,
        count_writes (g.L.Source.failures c.write_bytes-taken.new.link) (g.L.Sink.failures c.write_bytes-taken.new.link) (nat_lt n (length o.bytes)) (c.write_bytes-taken.ensures.reads ∙ c.requires.reads) (search rules),
        asks_none AllocError o c.args.cached c.args.frames.now n c.args.client.now c.step-action.new.self c.requires.made c.requires.state c.step-action.ensures.state c.step-action.result same c.if-not-outgoing.true c.step-action.ensures.action,
      );
    }

pub returns-in_err-end : goal.returns-in_err-end
returns-in_err-end g c =
    let o = c.args.outgoing.now in
    let n = c.write_bytes-taken.result in
    let same : n ≡ length o.bytes = omega (arith, c.if-taken-len.false, c.len.ensures, c.write_bytes-taken.ensures.most, ap length c.as_slice.ensures) in
    let failed = err_from_is_err_and c.from_residual.result c.from_residual.ensures.1 in
    let more = c.in_err-end.ensures.talk in
    let wrote : g.L.Link.talk c.write_bytes-taken.new.link ≡ adds (g.L.Link.talk c.args.link.now) (writes_part o.bytes n) = search rules in
    let writes : g.L.Sink.failures c.write_bytes-taken.new.link ≡ count_after 0 (nat_lt n (length o.bytes)) = search rules in
    rw failed.1 (record {
      talk = (
        and_then (writes_part o.bytes n) more.0,
        adds_then (g.L.Link.talk c.args.link.now) (g.L.Link.talk c.write_bytes-taken.new.link) (g.L.Link.talk c.await_reply.new.link) (writes_part o.bytes n) more.0 wrote more.1,
        count_both (g.L.Source.failures c.await_reply.new.link) (g.L.Sink.failures c.await_reply.new.link) (nat_lt n (length o.bytes)) more.0.failed
            (more.2 ∙ ap (λ (k : ℕ). count_after k more.0.failed) (c.write_bytes-taken.ensures.reads ∙ c.requires.reads)) (c.in_err-end.ensures.writes ∙ writes),
        asks_starved AllocError o c.args.cached c.args.frames.now n c.args.client.now c.step-action.new.self c.requires.made c.requires.state c.step-action.ensures.state failed.0 c.step-action.new.self more.0 same c.if-not-outgoing.false more.3,
      );
    })

pub over-requires-2 : goal.over-requires-2
over-requires-2 g c =
    let o = c.args.outgoing.now in
    let n = c.write_bytes-taken.result in
    let same : n ≡ length o.bytes = omega (arith, c.if-taken-len.false, c.len.ensures, c.write_bytes-taken.ensures.most, ap length c.as_slice.ensures) in
    reply_comes AllocError o c.args.cached c.args.frames.now n c.args.client.now c.step-action.new.self c.requires.made c.requires.state c.step-action.ensures.state c.in_ok-end.ensures.talk.0 c.in_ok-end.end same c.if-not-outgoing.false c.in_ok-end.ensures.talk.3

pub returns : goal.returns
returns g c =
    let o = c.args.outgoing.now in
    let n = c.write_bytes-taken.result in
    let same : n ≡ length o.bytes = omega (arith, c.if-taken-len.false, c.len.ensures, c.write_bytes-taken.ensures.most, ap length c.as_slice.ensures) in
    let more = c.in_ok-end.ensures.talk in
    let wrote : g.L.Link.talk c.write_bytes-taken.new.link ≡ adds (g.L.Link.talk c.args.link.now) (writes_part o.bytes n) = search rules in
    let writes : g.L.Sink.failures c.write_bytes-taken.new.link ≡ count_after 0 (nat_lt n (length o.bytes)) = search rules in
    record {
      talk = (
        and_then (writes_part o.bytes n) more.0,
        adds_then (g.L.Link.talk c.args.link.now) (g.L.Link.talk c.write_bytes-taken.new.link) (g.L.Link.talk c.await_reply.new.link) (writes_part o.bytes n) more.0 wrote more.1,
        count_both (g.L.Source.failures c.await_reply.new.link) (g.L.Sink.failures c.await_reply.new.link) (nat_lt n (length o.bytes)) more.0.failed
            (more.2 ∙ ap (λ (k : ℕ). count_after k more.0.failed) (c.write_bytes-taken.ensures.reads ∙ c.requires.reads)) (c.in_ok-end.ensures.writes ∙ writes),
        asks_reply AllocError o c.args.cached c.args.frames.now n c.args.client.now c.step-action.new.self c.requires.made c.requires.state c.step-action.ensures.state c.over-2.new.client more.0 c.in_ok-end.end c.over-2.result same c.if-not-outgoing.false more.3 c.over-2.ensures,
      );
    }
