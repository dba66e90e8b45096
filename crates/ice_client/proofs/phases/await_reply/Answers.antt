use Rattle.std.proofs.Common.{◌++◌, ◌∙◌, ℕ, [], Ok, refl, sym, ap, append-nil, arith}
use Rattle.std.proofs.lemmas.Result.{err_from_is_err_and}
use Rattle.std.specs.declared.alloc.AllocError.{AllocError}
use Rattle.ice_ports.specs.Failures.{count_after}
use Rattle.ice_ports.specs.Talks.{gives}
use Rattle.talking.specs.Hearing.{is_failed}
use Rattle.talking.proofs.Adding.{adds_then, adds_nothing}
use Rattle.ice_client.proofs.Reading.{waits_on, waits_over}
use Rattle.ice_client.proofs.phases.await_reply.Goals as goal

pub loop-heard-init : goal.loop-heard-init
loop-heard-init g c = record {
  waited = record {
    got = [];
    messages = [];
    talk = sym (adds_nothing (g.L.Link.talk c.args.link.now));
    validates = tt;
    read = append-nil c.args.frames.now.bytes;
    count = refl;
    few = omega arith;
    going = c.requires;
  };
  reads = refl;
  writes = refl;
}

pub returns-in_err-heard-clause-talk : goal.returns-in_err-heard-clause-talk
returns-in_err-heard-clause-talk g c =
    let failed = err_from_is_err_and c.from_residual.result c.from_residual.ensures.1 in
    let w = c.loop-heard.invariant.waited in
    let heard = c.in_err-heard.ensures.heard in
    rw failed.1 (
      gives (w.got ++ heard.0),
      adds_then (g.L.Link.talk c.args.link.now) (g.L.Link.talk c.loop-heard.link) (g.L.Link.talk c.hear.new.link) (gives w.got) (gives heard.0) w.talk heard.1,
      c.in_err-heard.ensures.reads ∙ c.loop-heard.invariant.reads,
      refl,
    )

pub returns-in-Some-clause-talk : goal.returns-in-Some-clause-talk
returns-in-Some-clause-talk g c =
    let heard = c.in_ok-heard.ensures.heard in
    let w = c.loop-heard.invariant.waited in
    let last = waits_over AllocError (g.L.Link.talk c.args.link.now) (g.L.Link.talk c.loop-heard.link) (g.L.Link.talk c.hear.new.link) c.args.frames.now c.loop-heard.frames c.hear.new.frames c.loop-heard.before w heard.0 c.in_ok-heard.heard c.args.cached
    heard.1 heard.2 c.in-Some.end (sym c.end_of.ensures ∙ c.in-Some.is) in (
      last.0,
      last.1,
      c.in_ok-heard.ensures.reads ∙ ap (λ (n : ℕ). count_after n (is_failed {E = AllocError} (Ok c.in_ok-heard.heard))) c.loop-heard.invariant.reads ∙ ap (count_after (g.L.Source.failures c.args.link.now)) (sym last.2),
      last.3,
    )

pub loop-heard-smaller : goal.loop-heard-smaller
loop-heard-smaller g c =
    let heard = c.in_ok-heard.ensures.heard in
    let on = waits_on AllocError (g.L.Link.talk c.args.link.now) (g.L.Link.talk c.loop-heard.link) (g.L.Link.talk c.hear.new.link) c.args.frames.now c.loop-heard.frames c.hear.new.frames c.loop-heard.before c.loop-heard.invariant.waited heard.0
    c.in_ok-heard.heard c.args.cached heard.1 heard.2 (sym c.end_of.ensures ∙ c.in_default.is) in
    omega (arith, on.1)

pub loop-heard-preserved : goal.loop-heard-preserved
loop-heard-preserved g c =
    let heard = c.in_ok-heard.ensures.heard in
    let on = waits_on AllocError (g.L.Link.talk c.args.link.now) (g.L.Link.talk c.loop-heard.link) (g.L.Link.talk c.hear.new.link) c.args.frames.now c.loop-heard.frames c.hear.new.frames c.loop-heard.before c.loop-heard.invariant.waited heard.0
    c.in_ok-heard.heard c.args.cached heard.1 heard.2 (sym c.end_of.ensures ∙ c.in_default.is) in
    record {
      waited = on.0;
      reads = c.in_ok-heard.ensures.reads ∙ ap (count_after (g.L.Source.failures c.loop-heard.link)) on.2 ∙ c.loop-heard.invariant.reads;
      writes = c.in_ok-heard.ensures.writes ∙ c.loop-heard.invariant.writes;
    }
