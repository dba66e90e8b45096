use Rattle.dispatch_pool.specs.Handled.{turns_of}
use Rattle.dispatch_pool.proofs.Shares.{grew_shares}
use Rattle.dispatch_pool.proofs.Working.{link_served}
use Rattle.dispatch_pool.proofs.worker.Worker.serve.Goals as goal

pub returns-clause-did : goal.returns-clause-did
returns-clause-did g c side n h =
    let d = c.serve_connection-end.ensures.did in
    link_served c.args.lanes.now c.args.messages g.O.Opening.first g.O.Opening.passes c.serve_connection-end.result side (g.D.Tray.Tray.told c.args.self.now.tray) _ _ _ d.0 d.1 c.args.self.now.passes _ n c.args.self.now.starved c.is_err.result
    c.take_back.ensures.told d.2 c.requires.new c.serve_connection-end.ensures.of d.3 d.4 c.is_err.ensures.value c.requires.fed h

pub returns-clause-shares : goal.returns-clause-shares
returns-clause-shares g c = let d = c.serve_connection-end.ensures.did in grew_shares c.args.self.now.passes c.serve_connection-end.new.passes (turns_of d.1) d.3
