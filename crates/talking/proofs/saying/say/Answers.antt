use Rattle.std.proofs.Common.{◌∙◌, List, ℕ, refl, sym, subst}
use Rattle.std.specs.declared.alloc.AllocError.{AllocError}
use Rattle.std.proofs.lemmas.Result.{err_from_is_err_and}
use Rattle.ice_ports.specs.Talks.{silent}
use Rattle.ice_messages.specs.Messages.{SpellsMessage}
use Rattle.talking.specs.Writing.{writes_part}
use Rattle.talking.proofs.Adding.{adds_nothing}
use Rattle.talking.proofs.Said.{said_by_write}
use Rattle.talking.proofs.saying.say.Goals as goal

pub returns-in_err-bytes-clause-did : goal.returns-in_err-bytes-clause-did
returns-in_err-bytes-clause-did g c =
    let failed = err_from_is_err_and c.from_residual.result c.from_residual.ensures.1 in
    rw failed.1 (silent, sym (adds_nothing (g.L.Link.talk c.args.link.now)), (refl, refl, (refl, refl)))

pub returns-clause-did : goal.returns-clause-did
returns-clause-did g c =
    let piece = c.as_slice-piece.result.now in let h = c.in_ok-bytes.ensures in let m = c.args.message.now in (
      writes_part piece c.write_bytes.result,
      c.write_bytes.ensures.talk,
      said_by_write AllocError m piece c.write_bytes.result _ (c.as_slice-piece.ensures ∙ h.0) (subst (λ (z : List ℕ). SpellsMessage z m) (sym c.as_slice-piece.ensures) h.1) c.write_bytes.ensures.most refl,
    )
