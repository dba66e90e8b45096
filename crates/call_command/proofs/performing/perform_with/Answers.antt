use Rattle.std.proofs.Common.{◌<◌, ◌++◌, ◌∷◌, [], length, refl, subst, sym, arith}
use Rattle.std.proofs.lemmas.Result.{err_from_is_err_and}
use Rattle.locator.specs.Caches.{Kept}
use Rattle.call_command.specs.Planning.{seen}
use Rattle.call_command.specs.Rounds.{Printed, net_seen, sink_seen}
use Rattle.call_command.proofs.InVain.{in_vain}
use Rattle.call_command.proofs.Rounding.{used_none, printed_none, undelivered, without_line, unprinted, this_delivery, printed_so, used_so, counted_so}
use Rattle.call_command.proofs.performing.perform_with.Goals as goal

pub loop-init : goal.loop-init
loop-init g c =
    let sink = sink_seen (g.K.Sink.taken c.args.sink.now) (g.K.Sink.failures c.args.sink.now) in
    record {
      deliveries = [];
      printed = subst (λ (places : Kept). Printed (seen c.args.plan.now) [] places sink sink) (sym c.requires.untold) (printed_none (seen c.args.plan.now) sink);
      used = used_none (net_seen (g.N.Net.told c.args.net.now) (g.N.Net.failures c.args.net.now) (g.N.Net.listen_failures c.args.net.now));
      counted = refl;
    }

pub returns-in_err-through : goal.returns-in_err-through
returns-in_err-through g c =
    let failed = err_from_is_err_and c.from_residual.result c.from_residual.ensures.1 in
    let i = c.loop.invariant in
    let less : length i.deliveries < c.args.plan.now.rounds = omega (arith, i.counted) in
    rw (failed.1, failed.2) (undelivered (seen c.args.plan.now) i.deliveries c.loop.cache (sink_seen (g.K.Sink.taken c.args.sink.now) (g.K.Sink.failures c.args.sink.now)) (sink_seen (g.K.Sink.taken c.loop.sink) (g.K.Sink.failures c.loop.sink)) (net_seen (g.N.Net.told c.args.net.now) (g.N.Net.failures c.args.net.now) (g.N.Net.listen_failures c.args.net.now))
    (net_seen (g.N.Net.told c.loop.net) (g.N.Net.failures c.loop.net) (g.N.Net.listen_failures c.loop.net))
    (net_seen (g.N.Net.told c.deliver.new.net) (g.N.Net.failures c.deliver.new.net) (g.N.Net.listen_failures c.deliver.new.net))
    i.printed i.used c.deliver.new.cache c.in_err-through.field-0.0 less c.in_err-through.ensures)

pub line_of-told-requires-clause-in_vain : goal.line_of-told-requires-clause-in_vain
line_of-told-requires-clause-in_vain g c =
    in_vain (seen c.args.plan.now) c.loop.cache c.in_ok-through.ensures.0 c.deliver.new.cache c.in_ok-through.through c.in_ok-through.ensures.2

pub returns-in_err-line : goal.returns-in_err-line
returns-in_err-line g c =
    let failed = err_from_is_err_and c.from_residual-in_err-line.result c.from_residual-in_err-line.ensures.1 in
    let i = c.loop.invariant in
    let less : length i.deliveries < c.args.plan.now.rounds = omega (arith, i.counted) in
    rw (failed.1, failed.2) (without_line (seen c.args.plan.now) i.deliveries c.loop.cache (sink_seen (g.K.Sink.taken c.args.sink.now) (g.K.Sink.failures c.args.sink.now)) (sink_seen (g.K.Sink.taken c.loop.sink) (g.K.Sink.failures c.loop.sink)) (net_seen (g.N.Net.told c.args.net.now) (g.N.Net.failures c.args.net.now) (g.N.Net.listen_failures c.args.net.now))
    (net_seen (g.N.Net.told c.loop.net) (g.N.Net.failures c.loop.net) (g.N.Net.listen_failures c.loop.net))
    (net_seen (g.N.Net.told c.deliver.new.net) (g.N.Net.failures c.deliver.new.net) (g.N.Net.listen_failures c.deliver.new.net))
    i.printed i.used c.deliver.new.cache c.in_ok-through.through c.in_err-line.field-0.0 less c.in_ok-through.ensures c.in_err-line.ensures)

pub returns-in_err-went : goal.returns-in_err-went
returns-in_err-went g c =
    let failed = err_from_is_err_and c.from_residual-in_err-went.result c.from_residual-in_err-went.ensures.1 in
    let i = c.loop.invariant in
    let less : length i.deliveries < c.args.plan.now.rounds = omega (arith, i.counted) in
    let prints = rw c.as_slice.ensures.value at c.in_err-went.ensures in
    rw (failed.1, failed.2) (unprinted (seen c.args.plan.now) i.deliveries c.loop.cache (sink_seen (g.K.Sink.taken c.args.sink.now) (g.K.Sink.failures c.args.sink.now)) (sink_seen (g.K.Sink.taken c.loop.sink) (g.K.Sink.failures c.loop.sink)) (net_seen (g.N.Net.told c.args.net.now) (g.N.Net.failures c.args.net.now) (g.N.Net.listen_failures c.args.net.now))
    (net_seen (g.N.Net.told c.loop.net) (g.N.Net.failures c.loop.net) (g.N.Net.listen_failures c.loop.net))
    (net_seen (g.N.Net.told c.deliver.new.net) (g.N.Net.failures c.deliver.new.net) (g.N.Net.listen_failures c.deliver.new.net))
    i.printed i.used (sink_seen (g.K.Sink.taken c.print-went.new.sink) (g.K.Sink.failures c.print-went.new.sink)) c.deliver.new.cache c.in_ok-through.through c.in_ok-line.line.items c.in_ok-through.ensures c.in_ok-line.ensures
    c.in_err-went.field-0.0 less prints.0 prints.1 prints.2)

pub loop-preserved : goal.loop-preserved
loop-preserved g c =
    let i = c.loop.invariant in
    let sink = sink_seen (g.K.Sink.taken c.args.sink.now) (g.K.Sink.failures c.args.sink.now) in
    let here = sink_seen (g.K.Sink.taken c.loop.sink) (g.K.Sink.failures c.loop.sink) in
    let new = sink_seen (g.K.Sink.taken c.print-went.new.sink) (g.K.Sink.failures c.print-went.new.sink) in
    let net = net_seen (g.N.Net.told c.args.net.now) (g.N.Net.failures c.args.net.now) (g.N.Net.listen_failures c.args.net.now) in
    let at = net_seen (g.N.Net.told c.loop.net) (g.N.Net.failures c.loop.net) (g.N.Net.listen_failures c.loop.net) in
    let now = net_seen (g.N.Net.told c.deliver.new.net) (g.N.Net.failures c.deliver.new.net) (g.N.Net.listen_failures c.deliver.new.net) in
    let prints = rw c.as_slice.ensures.value at c.in_ok-went.ensures in
    record {
      deliveries = i.deliveries ++ this_delivery (seen c.args.plan.now) i.deliveries c.loop.cache sink here net at now i.printed i.used new c.deliver.new.cache c.in_ok-through.through c.in_ok-line.line.items c.in_ok-through.ensures c.in_ok-line.ensures ∷ [];
      printed = printed_so (seen c.args.plan.now) i.deliveries c.loop.cache sink here net at now i.printed i.used new c.deliver.new.cache c.in_ok-through.through c.in_ok-line.line.items c.in_ok-through.ensures c.in_ok-line.ensures prints.0 prints.1;
      used = used_so (seen c.args.plan.now) i.deliveries c.loop.cache sink here net at now i.printed i.used new c.deliver.new.cache c.in_ok-through.through c.in_ok-line.line.items c.in_ok-through.ensures c.in_ok-line.ensures;
      counted = counted_so (seen c.args.plan.now) i.deliveries c.loop.cache sink here net at now i.printed i.used new c.deliver.new.cache c.in_ok-through.through c.in_ok-line.line.items c.in_ok-through.ensures c.in_ok-line.ensures c.loop.counter i.counted;
    }

pub returns : goal.returns
returns g c =
    let i = c.loop.invariant in
    record { deliveries = i.deliveries; places = c.loop.cache; printed = i.printed; used = i.used; all = omega (arith, i.counted) }
