use Rattle.std.proofs.Common.{◌≡◌, ◌++◌, refl, subst, inl}
use Rattle.std.specs.Prelude.{Ok, Err}
use Rattle.std.specs.declared.alloc.AllocError.{AllocError}
use Rattle.std.proofs.lemmas.Result.{err_from_is_err_and}
use Rattle.ice_ports.specs.Talks.{and_then, adds, gives}
use Rattle.talking.specs.declared.hearing.Heard.{Heard}
use Rattle.talking.specs.declared.hearing.Heard.TheVariants as heards
use Rattle.talking.specs.Hearing.{Hears, heard_part}
use Rattle.talking.proofs.Adding.{adds_then}
use Rattle.talking.specs.declared.end.End.TheVariants as ends
use Rattle.dispatch_pool.proofs.Results.{ok_either}
use Rattle.dispatch_pool.proofs.Sessions.{next_behind, next_end, next_starved}
use Rattle.dispatch_pool.proofs.session.serve_next.Goals as goal

pub returns-in_err-message-clause-did : goal.returns-in_err-message-clause-did
returns-in_err-message-clause-did g c =
    let failed = err_from_is_err_and c.from_residual.result c.from_residual.ensures.1 in
    let e = c.in_err-message.field-0.0 in let d = c.in_err-message.ensures.heard in
    rw failed.1 (heard_part {E = AllocError} d.0 (Err e), d.1, next_starved c.args.service.now.lanes.now.keys _ c.args.passes.now.passes.items (heard_part {E = AllocError} d.0 (Err e)) _ _ refl (refl, refl))

pub serve_message-next-requires-clause-spelled : goal.serve_message-next-requires-clause-spelled
serve_message-next-requires-clause-spelled g c = λ κs lives.
    let d = c.in_ok-message.ensures.heard in
    let h = subst (λ (z : Heard). Hears {E = AllocError} (c.args.frames.now.bytes ++ d.0) c.hear.new.frames (Ok z)) c.in-Message.is d.2 in
    (h.0, h.2)

pub returns-in-Message-clause-did : goal.returns-in-Message-clause-did
returns-in-Message-clause-did g c =
    let d = c.in_ok-message.ensures.heard in let s = c.serve_message-next.ensures.did in
    let h = subst (λ (z : Heard). Hears {E = AllocError} (c.args.frames.now.bytes ++ d.0) c.hear.new.frames (Ok z)) c.in-Message.is d.2 in
    let one = subst (λ (z : Heard). g.L.Link.talk c.hear.new.link ≡ adds (g.L.Link.talk c.args.link.now) (heard_part {E = AllocError} d.0 (Ok z))) c.in-Message.is d.1 in (
      and_then (gives d.0) s.0,
      adds_then (g.L.Link.talk c.args.link.now) (g.L.Link.talk c.hear.new.link) (g.L.Link.talk c.serve_message-next.new.link) (gives d.0) s.0 one s.1,
      next_behind c.args.service.now.lanes.now.keys c.args.passes.now.passes.items c.serve_message-next.new.passes.passes.items c.serve_message-next.result c.args.frames.now.bytes d.0 c.hear.new.frames.bytes s.0 s.2
          (s.3 (c.args.frames.now.bytes ++ d.0) c.hear.new.frames.bytes h.0 h.1 h.2),
    )

pub returns-in-Message-clause-going : goal.returns-in-Message-clause-going
returns-in-Message-clause-going g c =
    let d = c.in_ok-message.ensures.heard in
    let h = subst (λ (z : Heard). Hears {E = AllocError} (c.args.frames.now.bytes ++ d.0) c.hear.new.frames (Ok z)) c.in-Message.is d.2 in
    ok_either c.serve_message-next.result _ (λ end none. h.3)

pub returns-in-Broken-clause-did : goal.returns-in-Broken-clause-did
returns-in-Broken-clause-did g c =
    let d = c.in_ok-message.ensures.heard in let fault = c.in-Broken.fault in
    let h = subst (λ (z : Heard). Hears {E = AllocError} (c.args.frames.now.bytes ++ d.0) c.hear.new.frames (Ok z)) c.in-Broken.is d.2 in
    let one = subst (λ (z : Heard). g.L.Link.talk c.hear.new.link ≡ adds (g.L.Link.talk c.args.link.now) (heard_part {E = AllocError} d.0 (Ok z))) c.in-Broken.is d.1 in (
      heard_part {E = AllocError} d.0 (Ok (heards.Broken fault)),
      one,
      next_end c.args.service.now.lanes.now.keys c.args.passes.now.passes.items (heard_part {E = AllocError} d.0 (Ok (heards.Broken fault))) (c.args.frames.now.bytes ++ d.0) c.hear.new.frames.bytes (ends.PeerBroke fault) (inl h) (refl, (refl, tt)),
    )

pub returns-in-Ended-clause-did : goal.returns-in-Ended-clause-did
returns-in-Ended-clause-did g c =
    let d = c.in_ok-message.ensures.heard in
    let h = subst (λ (z : Heard). Hears {E = AllocError} (c.args.frames.now.bytes ++ d.0) c.hear.new.frames (Ok z)) c.in-Ended.is d.2 in
    let one = subst (λ (z : Heard). g.L.Link.talk c.hear.new.link ≡ adds (g.L.Link.talk c.args.link.now) (heard_part {E = AllocError} d.0 (Ok z))) c.in-Ended.is d.1 in (
      heard_part {E = AllocError} d.0 (Ok heards.Ended),
      one,
      next_end c.args.service.now.lanes.now.keys c.args.passes.now.passes.items (heard_part {E = AllocError} d.0 (Ok heards.Ended)) (c.args.frames.now.bytes ++ d.0) c.hear.new.frames.bytes ends.PeerEnded (h, refl) (refl, (refl, tt)),
    )

pub returns-in-Failed-clause-did : goal.returns-in-Failed-clause-did
returns-in-Failed-clause-did g c =
    let d = c.in_ok-message.ensures.heard in
    let h = subst (λ (z : Heard). Hears {E = AllocError} (c.args.frames.now.bytes ++ d.0) c.hear.new.frames (Ok z)) c.in-Failed.is d.2 in
    let one = subst (λ (z : Heard). g.L.Link.talk c.hear.new.link ≡ adds (g.L.Link.talk c.args.link.now) (heard_part {E = AllocError} d.0 (Ok z))) c.in-Failed.is d.1 in (
      heard_part {E = AllocError} d.0 (Ok heards.Failed),
      one,
      next_end c.args.service.now.lanes.now.keys c.args.passes.now.passes.items (heard_part {E = AllocError} d.0 (Ok heards.Failed)) (c.args.frames.now.bytes ++ d.0) c.hear.new.frames.bytes ends.LinkFailed refl (inl (h, (refl, (refl, tt)))),
    )
