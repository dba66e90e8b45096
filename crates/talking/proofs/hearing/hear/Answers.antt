use Rattle.std.proofs.Common.{rules, ◌<◌, ◌++◌, ◌∙◌, List, ℕ, length, take, Option, Ok, sym, ap, subst, append_assoc, arith, ◌≤◌, inl, inr, refl, [], append-nil}
use Rattle.std.proofs.lemmas.List.{length-append}
use Rattle.std.proofs.lemmas.Result.{err_from_is_err_and}
use Rattle.ice_messages.specs.Framing.{Held, NextOf}
use Rattle.ice_messages.specs.Streams.{IsFront}
use Rattle.ice_messages.specs.declared.message.Message.{Message}
use Rattle.ice_ports.specs.declared.ports.Failed.{Failed}
use Rattle.ice_ports.specs.declared.ports.TheConstants.{MOST_OF_A_READ}
use Rattle.talking.proofs.Adding.{adds_nothing, gives_more, ended_more, failed_more}
use Rattle.talking.proofs.Readers.{handed, waits}
use Rattle.talking.proofs.hearing.hear.Goals as goal

pub returns-in-Ok-Some-clause-heard : goal.returns-in-Ok-Some-clause-heard
returns-in-Ok-Some-clause-heard g c =
    let before = c.loop-message.invariant.heard in
    let h = handed c.loop-message.frames c.next.new.self c.in-Ok-Some.message c.loop-message.invariant.going
    (subst (λ (o : Option Message). NextOf c.loop-message.frames c.next.new.self (Ok o)) c.in-Ok-Some.field-0-is c.in-Ok-Some.ensures) in
    (before.0, before.1, (h.0, sym before.2 ∙ h.1, h.2, h.3), before.3)

pub returns-in-Ok-eq0-clause-heard : goal.returns-in-Ok-eq0-clause-heard
returns-in-Ok-eq0-clause-heard g c =
    let before = c.loop-message.invariant.heard in
    let w = waits c.loop-message.frames c.next.new.self c.loop-message.invariant.going
    (subst (λ (o : Option Message). NextOf c.loop-message.frames c.next.new.self (Ok o)) c.in-Ok-None.field-0-is c.in-Ok-None.ensures) in
    let some : 0 < length c.read_link.new.into = search rules in (
      before.0,
      ended_more Failed (g.L.Link.talk c.args.link.now) (g.L.Link.talk c.loop-message.link) (g.L.Link.talk c.read_link.new.link) before.0 c.read_link.new.into c.in-Ok-eq0.field-0 c.in-Ok-eq0.field-0-test some before.1 c.in-Ok-eq0.ensures.talk,
      subst IsFront before.2 w.0,
      before.3,
    )

pub returns-in-Err-clause-heard : goal.returns-in-Err-clause-heard
returns-in-Err-clause-heard g c =
    let before = c.loop-message.invariant.heard in
    let w = waits c.loop-message.frames c.next.new.self c.loop-message.invariant.going
    (subst (λ (o : Option Message). NextOf c.loop-message.frames c.next.new.self (Ok o)) c.in-Ok-None.field-0-is c.in-Ok-None.ensures) in (
      before.0,
      failed_more Failed (g.L.Link.talk c.args.link.now) (g.L.Link.talk c.loop-message.link) (g.L.Link.talk c.read_link.new.link) before.0 c.read_link.new.into c.in-Err.field-0 before.1 c.in-Err.ensures.talk,
      subst IsFront before.2 w.0,
      before.3,
    )

pub returns-in_err-take_piece-clause-heard : goal.returns-in_err-take_piece-clause-heard
returns-in_err-take_piece-clause-heard g c =
    let failed = err_from_is_err_and c.from_residual.result c.from_residual.ensures.1 in
    let before = c.loop-message.invariant.heard in
    let w = waits c.loop-message.frames c.next.new.self c.loop-message.invariant.going
    (subst (λ (o : Option Message). NextOf c.loop-message.frames c.next.new.self (Ok o)) c.in-Ok-None.field-0-is c.in-Ok-None.ensures) in
    let few : length (take c.in-Ok.count c.read_link.new.into) ≤ MOST_OF_A_READ = search rules in
    rw failed.1 (before.0 ++ take c.in-Ok.count c.read_link.new.into, gives_more Failed (g.L.Link.talk c.args.link.now) (g.L.Link.talk c.loop-message.link) (g.L.Link.talk c.read_link.new.link) before.0 c.read_link.new.into c.in-Ok.count (omega (arith, c.in-Ok.count-test)) before.1 c.in-Ok.ensures.talk, tt, inr (before.0, take c.in-Ok.count c.read_link.new.into, refl, subst IsFront before.2 w.0, few))

pub loop-message-smaller : goal.loop-message-smaller
loop-message-smaller g c =
    let w = waits c.loop-message.frames c.next.new.self c.loop-message.invariant.going
    (subst (λ (o : Option Message). NextOf c.loop-message.frames c.next.new.self (Ok o)) c.in-Ok-None.field-0-is c.in-Ok-None.ensures) in
    let piece = take c.in-Ok.count c.read_link.new.into in
    omega (arith, w.1, ap (λ (z : Held). length z.bytes) w.2, ap length c.in_ok-take_piece.ensures.0, length-append c.next.new.self.bytes piece, c.in-Ok.ensures.bound.1, c.in-Ok.count-test)

pub loop-message-preserved : goal.loop-message-preserved
loop-message-preserved g c =
    let before = c.loop-message.invariant.heard in
    let w = waits c.loop-message.frames c.next.new.self c.loop-message.invariant.going
    (subst (λ (o : Option Message). NextOf c.loop-message.frames c.next.new.self (Ok o)) c.in-Ok-None.field-0-is c.in-Ok-None.ensures) in
    let piece = take c.in-Ok.count c.read_link.new.into in
    let few : length piece ≤ MOST_OF_A_READ = search rules in
    record {
      heard = (
        before.0 ++ piece,
        gives_more Failed (g.L.Link.talk c.args.link.now) (g.L.Link.talk c.loop-message.link) (g.L.Link.talk c.read_link.new.link) before.0 c.read_link.new.into c.in-Ok.count (omega (arith, c.in-Ok.count-test)) before.1 c.in-Ok.ensures.talk,
        c.in_ok-take_piece.ensures.0 ∙ ap (λ (z : Held). z.bytes ++ piece) w.2 ∙ ap (λ (z : List ℕ). z ++ piece) before.2 ∙ append_assoc c.args.frames.now.bytes before.0 piece,
        inr (before.0, piece, refl, subst IsFront before.2 w.0, few),
      );
      going = c.in_ok-take_piece.ensures.1;
      reads = c.in-Ok.ensures.reads ∙ c.loop-message.invariant.reads;
      writes = c.in-Ok.ensures.writes ∙ c.loop-message.invariant.writes;
    }

pub loop-message-init : goal.loop-message-init
loop-message-init g c = record {
  heard = ([], sym (adds_nothing (g.L.Link.talk c.args.link.now)), sym (append-nil c.args.frames.now.bytes), inl refl);
  going = c.requires;
  reads = refl;
  writes = refl;
}
