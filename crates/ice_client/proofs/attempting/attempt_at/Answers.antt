use Rattle.std.proofs.Common.{Some}
use Rattle.std.specs.declared.alloc.AllocError.{AllocError}
use Rattle.ice_client.proofs.Rowed.{connected_state}
use Rattle.ice_client.proofs.Conversing.{hung, hung_count, has_talk}
use Rattle.ice_client.proofs.attempting.attempt_at.Goals as goal

pub returns-in-Ok-clause-told : goal.returns-in-Ok-clause-told
returns-in-Ok-clause-told g c =
    let t = c.converse-once.ensures.talk in
    let there = connected_state c.args.client.now c.step.new.self c.args.outgoing.now c.requires.made c.requires.state c.step.ensures.state in (
      Some t.0,
      hung (g.N.Net.told c.args.net.now) (g.N.Net.told c.connect.new.self) (g.N.Net.told c.hang_up.new.self) _ _ _ c.args.host.now c.args.port t.0 c.in-Ok.ensures.told c.in-Ok.ensures.new.0 t.1 c.shut.ensures.talk c.hang_up.ensures.told,
      hung_count (g.N.Net.failures c.args.net.now) (g.N.Net.failures c.connect.new.self) (g.N.Net.failures c.hang_up.new.self) _ _ _ _ t.0.failed c.in-Ok.ensures.count c.hang_up.ensures.count c.shut.ensures.reads c.shut.ensures.writes t.2,
      has_talk AllocError c.args.outgoing.now c.args.cached t.0 c.args.client.now c.step.new.self c.converse-once.new.client c.converse-once.result there t.3,
    )
