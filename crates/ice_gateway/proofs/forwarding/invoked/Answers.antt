use Rattle.std.proofs.Common.{pos, ◌∷◌, [], refl}
use Rattle.ice_messages.specs.declared.message.Message.TheVariants.{Request}
use Rattle.ice_gateway.specs.Gate.{seen}
use Rattle.ice_gateway.specs.Runs.{net_seen}
use Rattle.ice_gateway.proofs.Outcomes.{outcome_comes, starved_in, was_tried}
use Rattle.ice_gateway.proofs.Runs.{ran_one}
use Rattle.ice_gateway.proofs.forwarding.invoked.Goals as goal

pub returns-in-Ok-clause-told : goal.returns-in-Ok-clause-told
returns-in-Ok-clause-told g c =
    let told = c.in-Ok.ensures.told in
    let old = net_seen (g.N.Net.told c.args.net.now) (g.N.Net.failures c.args.net.now) (g.N.Net.listen_failures c.args.net.now) in
    let new = net_seen (g.N.Net.told c.invoke.new.net) (g.N.Net.failures c.invoke.new.net) (g.N.Net.listen_failures c.invoke.new.net) in
    let was = was_tried (seen c.args.gateway.now) (Request (pos 1) c.args.call.now) told.0 c.in-Ok.invoked c.requires.placed told.2 in
    (told.0 ∷ [], ran_one c.args.gateway.now.upstream.now.endpoints told.0 old new told.1 c.in-Ok.ensures.kept, (told.0, refl, was.0, was.1))

pub returns-in-Ok-clause-comes : goal.returns-in-Ok-clause-comes
returns-in-Ok-clause-comes g c =
    let told = c.in-Ok.ensures.told in
    let m = Request (pos 1) c.args.call.now in
    let was = was_tried (seen c.args.gateway.now) m told.0 c.in-Ok.invoked c.requires.placed told.2 in
    outcome_comes m c.args.gateway.now.retries told.0 c.in-Ok.invoked.outcome refl was.0

pub returns-in-Err-Memory-clause-told : goal.returns-in-Err-Memory-clause-told
returns-in-Err-Memory-clause-told g c =
    let told = c.in-Err-Memory.ensures.told in
    let old = net_seen (g.N.Net.told c.args.net.now) (g.N.Net.failures c.args.net.now) (g.N.Net.listen_failures c.args.net.now) in
    let new = net_seen (g.N.Net.told c.invoke.new.net) (g.N.Net.failures c.invoke.new.net) (g.N.Net.listen_failures c.invoke.new.net) in
    (told.0 ∷ [], ran_one c.args.gateway.now.upstream.now.endpoints told.0 old new told.1 c.in-Err-Memory.ensures.kept, starved_in (seen c.args.gateway.now) (Request (pos 1) c.args.call.now) told.0 _ c.in-Err-Memory.field-0-is told.2)
