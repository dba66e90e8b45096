use Rattle.std.proofs.Common.{◌∙◌, ◌||◌, ℕ, Option, Ok, sym, ap, subst}
use Rattle.std.proofs.lemmas.Result.{err_from_is_err_and}
use Rattle.std.specs.declared.alloc.AllocError.{AllocError}
use Rattle.ice_ports.specs.Failures.{count_after}
use Rattle.ice_ports.specs.Talks.{and_then}
use Rattle.ice_ports.specs.declared.talk.Talk.{Talk}
use Rattle.retry_core.specs.declared.client_table.ClientState.TheVariants as states
use Rattle.ice_client.specs.declared.outcome.End.{End}
use Rattle.ice_client.specs.Steps.{Greets}
use Rattle.talking.proofs.Adding.{adds_then}
use Rattle.ice_client.proofs.Rowed.{count_reads, greeted_state, ran_early}
use Rattle.ice_client.proofs.Conversing.{greeted_comes, greeted_over, converses_moved}
use Rattle.ice_client.proofs.attempting.converse.Goals as goal

pub returns-in_err-end : goal.returns-in_err-end
returns-in_err-end g c =
    let failed = err_from_is_err_and c.from_residual.result c.from_residual.ensures.1 in
    let t = c.in_err-end.ensures.talk in
    rw failed.1 (record {
      talk = (
        t.0,
        t.1,
        count_reads (g.L.Source.failures c.greet.new.link) (g.L.Sink.failures c.greet.new.link) t.0.failed (t.2 ∙ ap (λ (k : ℕ). count_after k t.0.failed) c.requires.reads) (c.in_err-end.ensures.writes ∙ c.requires.writes),
        ran_early c.args.outgoing.now t.0 t.3,
      );
    })

pub over-requires : goal.over-requires
over-requires g c =
    let t = c.in_ok-end.ensures.talk in
    greeted_comes AllocError c.args.outgoing.now c.args.cached c.greet.new.frames t.0 c.args.client.now c.requires.made c.requires.state c.in-Some.end
    (subst (λ (e : Option End). Greets {E = AllocError} c.args.cached c.greet.new.frames t.0 (Ok e)) c.in-Some.is t.3)

pub returns-in-Some : goal.returns-in-Some
returns-in-Some g c =
    let t = c.in_ok-end.ensures.talk in
    record {
      talk = (
        t.0,
        t.1,
        count_reads (g.L.Source.failures c.greet.new.link) (g.L.Sink.failures c.greet.new.link) t.0.failed (t.2 ∙ ap (λ (k : ℕ). count_after k t.0.failed) c.requires.reads) (c.in_ok-end.ensures.writes ∙ c.requires.writes),
        greeted_over AllocError c.args.outgoing.now c.args.cached c.greet.new.frames t.0 c.args.client.now c.requires.made c.requires.state c.over.new.client c.in-Some.end c.over.result
            (subst (λ (e : Option End). Greets {E = AllocError} c.args.cached c.greet.new.frames t.0 (Ok e)) c.in-Some.is t.3) c.over.ensures,
      );
    }

pub returns : goal.returns
returns g c =
    let t = c.in_ok-end.ensures.talk in
    let on = subst (λ (e : Option End). Greets {E = AllocError} c.args.cached c.greet.new.frames t.0 (Ok e)) c.in_default.is t.3 in
    let there = greeted_state c.args.client.now c.step.new.self c.args.outgoing.now c.requires.made c.requires.state c.step.ensures.state in
    let more = c.ask.ensures.talk in
    record {
      talk = (
        and_then t.0 more.0,
        adds_then (g.L.Link.talk c.args.link.now) (g.L.Link.talk c.greet.new.link) (g.L.Link.talk c.ask.new.link) t.0 more.0 t.1 more.1,
        more.2 ∙ sym (ap (λ (z : Talk). z.failed || more.0.failed) on.0),
        converses_moved AllocError c.args.outgoing.now c.args.cached (and_then t.0 more.0) c.args.client.now c.step.new.self c.ask.new.client (states.Sending 0) c.ask.result there (more.3 t.0 on.0 on.1 on.3),
      );
    }
