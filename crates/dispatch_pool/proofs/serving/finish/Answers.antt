use Rattle.std.proofs.Common.{◌∙◌, subst, ℕ}
use Rattle.dispatch_pool.specs.Sessions.{AllServed}
use Rattle.talking.proofs.Told.{none_gathered}
use Rattle.dispatch_pool.proofs.Working.{caller_done}
use Rattle.dispatch_pool.proofs.serving.finish.Goals as goal

pub gather_all-starved-requires-clause-done : goal.gather_all-starved-requires-clause-done
gather_all-starved-requires-clause-done g c κs bounds =
    (c.args.door.accepted, caller_done c.args.lanes.now c.args.messages g.O.Opening.first g.O.Opening.passes c.args.door.accepted (g.D.Listener.told c.args.door.listener) _ _ c.args.caller.passes _ c.args.caller.starved c.gather.ensures.told c.args.door.tells c.requires.served)

pub returns-clause-done : goal.returns-clause-done
returns-clause-done g c =
    subst (λ (n : ℕ). AllServed c.args.lanes.now c.args.messages g.O.Opening.first g.O.Opening.passes c.args.door.accepted (g.D.Listener.told c.gather_all-starved.new.listener) c.gather_all-starved.new.passes n c.gather_all-starved.result)
    (c.audit-2.ensures.whole (c.gather_all-starved.ensures.parts ∙ c.requires.parts) ∙ c.args.door.accepted_is)
    (c.gather_all-starved.ensures.done c.args.door.accepted
    (caller_done c.args.lanes.now c.args.messages g.O.Opening.first g.O.Opening.passes c.args.door.accepted (g.D.Listener.told c.args.door.listener) _ _ c.args.caller.passes _ c.args.caller.starved c.gather.ensures.told c.args.door.tells c.requires.served))

pub returns-clause-no_more : goal.returns-clause-no_more
returns-clause-no_more g c is = c.gather_all-starved.ensures.to_come (none_gathered (g.D.Listener.told c.args.door.listener) _ _ c.gather.ensures.told (c.args.door.no_more is))
