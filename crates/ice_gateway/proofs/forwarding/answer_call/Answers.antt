use Rattle.std.proofs.Common.{pos, []}
use Rattle.std.proofs.lemmas.Result.{err_from_is_err_and}
use Rattle.encaps_optionals.specs.Usable.{tcp_at}
use Rattle.ice_messages.specs.declared.message.Message.TheVariants.{Request}
use Rattle.ice_client.proofs.Delivering.{no_place, some_place}
use Rattle.ice_gateway.specs.Gate.{operation_seen, seen}
use Rattle.ice_gateway.specs.Mapped.{ByOutcome}
use Rattle.ice_gateway.specs.Forwarded.{placed}
use Rattle.ice_gateway.specs.Runs.{net_seen}
use Rattle.ice_gateway.proofs.Passing.{due_starved, not_forwarded, placed_none, was_forwarded}
use Rattle.ice_gateway.proofs.Runs.{ran_none}
use Rattle.ice_gateway.proofs.forwarding.answer_call.Goals as goal

pub returns-then-is_none-clause-told : goal.returns-then-is_none-clause-told
returns-then-is_none-clause-told g c =
    let gate = seen c.args.gateway.now in
    let m = Request (pos 1) c.args.call.now in
    let net = net_seen (g.N.Net.told c.args.net.now) (g.N.Net.failures c.args.net.now) (g.N.Net.listen_failures c.args.net.now) in (
      [],
      ran_none gate.endpoints net,
      not_forwarded gate (placed gate m) (ByOutcome gate (operation_seen c.args.known)) c.failed.result (placed_none gate m (no_place _ c.tcp_of.result (tcp_at 0 gate.endpoints) c.if-is_none.ensures c.tcp_of.ensures)) c.failed.ensures.told,
    )

pub invoked-requires-clause-placed : goal.invoked-requires-clause-placed
invoked-requires-clause-placed g c κs within = some_place _ c.tcp_of.result (tcp_at 0 c.args.gateway.now.upstream.now.endpoints) c.if-is_none.ensures c.tcp_of.ensures

pub returns-in_err-outcome-clause-told : goal.returns-in_err-outcome-clause-told
returns-in_err-outcome-clause-told g c =
    let failed = err_from_is_err_and c.from_residual.result c.from_residual.ensures.1 in
    let told = c.in_err-outcome.ensures.told in
    let gate = seen c.args.gateway.now in
    let some = some_place _ c.tcp_of.result (tcp_at 0 gate.endpoints) c.if-is_none.ensures c.tcp_of.ensures in
    rw failed.1 (told.0, told.1, due_starved gate (Request (pos 1) c.args.call.now) told.0 some told.2)

pub returns-clause-told : goal.returns-clause-told
returns-clause-told g c =
    let gate = seen c.args.gateway.now in
    let told = c.in_ok-outcome.ensures.told in
    let some = some_place _ c.tcp_of.result (tcp_at 0 gate.endpoints) c.if-is_none.ensures c.tcp_of.ensures in
    (told.0, told.1, was_forwarded gate (Request (pos 1) c.args.call.now) (ByOutcome gate (operation_seen c.args.known)) told.0 c.in_ok-outcome.outcome c.answer_to.result some told.2 c.answer_to.ensures.is)
