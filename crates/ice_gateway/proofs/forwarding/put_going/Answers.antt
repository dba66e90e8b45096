use Rattle.std.proofs.Common.{sym, subst, ◌∙◌}
use Rattle.std.specs.Prelude.{Option, IfSome}
use Rattle.ice_messages.specs.declared.message.Call.{Call}
use Rattle.ice_gateway.specs.Laws.{CanGo}
use Rattle.ice_gateway.proofs.Passing.{put_none, put_sends, put_some}
use Rattle.ice_gateway.proofs.forwarding.put_going.Goals as goal

pub returns-in-Some-clause-put : goal.returns-in-Some-clause-put
returns-in-Some-clause-put c = put_some c.push.result c.args.all.now c.push.new.self _ c.in-Some.call (sym c.in-Some.is ∙ c.in_ok-call.ensures.is) c.push.ensures.ok

pub returns-in-Some-clause-sendable : goal.returns-in-Some-clause-sendable
returns-in-Some-clause-sendable c = put_sends c.push.result c.args.all.now c.push.new.self c.in-Some.call (subst (λ (o : Option Call). IfSome o CanGo) c.in-Some.is c.in_ok-call.ensures.sendable) c.push.ensures.ok

pub returns-in-None-clause-put : goal.returns-in-None-clause-put
returns-in-None-clause-put c = put_none c.args.all.now _ (sym c.in-None.is ∙ c.in_ok-call.ensures.is)
