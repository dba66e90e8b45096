use Rattle.std.proofs.Common.{◌∷◌, [], sym, subst}
use Rattle.std.specs.Prelude.{ℤ}
use Rattle.std.proofs.Math.Facts.{to_z-of_z}
use Rattle.ice_messages.specs.declared.message.Message.TheVariants.{Reply}
use Rattle.ice_messages.proofs.Writable.{answer_writable}
use Rattle.object_adapter.specs.Replies.{KeepsLimit}
use Rattle.talking.specs.Said.{Says}
use Rattle.dispatch_pool.proofs.Bounds.{id_zero, id_some}
use Rattle.std.specs.declared.alloc.AllocError.{AllocError}
use Rattle.ice_ports.specs.Talks.{silent}
use Rattle.talking.proofs.Adding.{adds_nothing}
use Rattle.dispatch_pool.proofs.Messages.{unasked_says, reply_says}
use Rattle.dispatch_pool.proofs.saying.reply.Goals as goal

pub returns-then-id-eq0-clause-did : goal.returns-then-id-eq0-clause-did
returns-then-id-eq0-clause-did g c = (silent, sym (adds_nothing (g.L.Link.talk c.args.link.now)), unasked_says AllocError c.args.id c.args.answer (id_zero c.args.id c.ranges.id c.if-id-eq0.true))

pub say-requires-clause-writable : goal.say-requires-clause-writable
say-requires-clause-writable g c = λ κs lives. answer_writable c.args.answer c.requires.answer

pub say-requires-clause-short : goal.say-requires-clause-short
say-requires-clause-short g c = λ κs lives. subst (λ (z : ℤ). KeepsLimit (Reply z c.args.answer)) (sym (to_z-of_z c.ranges.id)) c.requires.short

pub returns-clause-did : goal.returns-clause-did
returns-clause-did g c = let d = c.say.ensures.did in (d.0, d.1, reply_says AllocError c.args.id c.args.answer d.0 c.say.result (id_some c.args.id c.if-id-eq0.false) (subst (λ (z : ℤ). Says (Reply z c.args.answer ∷ []) d.0 c.say.result) (to_z-of_z c.ranges.id) d.2))
