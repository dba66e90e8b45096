use Rattle.std.proofs.Common.{Err, subst}
use Rattle.ice_messages.specs.declared.fault.WriteFault.{WriteFault}
use Rattle.locator.specs.Through.{GoesThrough}
use Rattle.call_command.specs.Planning.{seen, target_of}
use Rattle.call_command.specs.Rounds.{net_seen}
use Rattle.call_command.proofs.Delivering.{delivers, delivers_nothing}
use Rattle.call_command.proofs.performing.deliver.Goals as goal

pub returns-in-Ok : goal.returns-in-Ok
returns-in-Ok g c =
    let told = c.in-Ok.ensures.told in
    delivers (seen c.args.plan.now) c.args.cache.now told.0 (net_seen (g.N.Net.told c.args.net.now) (g.N.Net.failures c.args.net.now) (g.N.Net.listen_failures c.args.net.now))
    (net_seen (g.N.Net.told c.go_through.new.net) (g.N.Net.failures c.go_through.new.net) (g.N.Net.listen_failures c.go_through.new.net)) c.go_through.new.cache told.1 c.in-Ok.ensures.kept c.in-Ok.through told.2 c.in-Ok.ensures.fails

pub returns-in-Err-Memory : goal.returns-in-Err-Memory
returns-in-Err-Memory g c =
    let told = c.in-Err-Memory.ensures.told in
    delivers_nothing (seen c.args.plan.now) c.args.cache.now told.0 (net_seen (g.N.Net.told c.args.net.now) (g.N.Net.failures c.args.net.now) (g.N.Net.listen_failures c.args.net.now))
    (net_seen (g.N.Net.told c.go_through.new.net) (g.N.Net.failures c.go_through.new.net) (g.N.Net.listen_failures c.go_through.new.net)) c.go_through.new.cache told.1 c.in-Err-Memory.ensures.kept
    (subst (λ (e : WriteFault). GoesThrough c.args.plan.now.message (target_of (seen c.args.plan.now)) c.args.cache.now told.0 c.go_through.new.cache (Err e)) c.in-Err-Memory.field-0-is told.2)
