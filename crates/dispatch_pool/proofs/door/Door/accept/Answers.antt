use Rattle.std.proofs.Common.{ℕ, arith}
use Rattle.talking.proofs.Told.{door_gave, link_new}
use Rattle.dispatch_pool.proofs.door.Door.accept.Goals as goal

pub invariant_of-self-in-Ok-Some-clause-tells : goal.invariant_of-self-in-Ok-Some-clause-tells
invariant_of-self-in-Ok-Some-clause-tells g c =
    let d = c.args.self.now in
    door_gave _ ℕ c.in-Ok-Some.field-0 c.in-Ok-Some.link c.in-Ok-Some.field-0-is g.O.Opening.first d.accepted (g.D.Listener.told d.listener) (g.D.Listener.told c.accept.new.self) c.in-Ok-Some.ensures.told
    (let f = d.fits in let n = c.if-accepted-wanted.false in omega arith) d.tells

pub returns-in-Ok-Some-clause-some : goal.returns-in-Ok-Some-clause-some
returns-in-Ok-Some-clause-some g c =
    let d = c.args.self.now in
    (link_new _ g.D.Link.Source.failures g.D.Link.Sink.failures g.D.Link.Link.talk c.in-Ok-Some.field-0 c.in-Ok-Some.link c.in-Ok-Some.field-0-is g.O.Opening.first d.accepted (g.D.Listener.told d.listener) d.tells c.in-Ok-Some.ensures.new, c.add.ensures.amount)
