use Rattle.std.proofs.Common.{rules, ◌≡◌, ◌∷◌, ◌++◌, ◌∙◌, [], true, inl, refl, sym, ap, subst}
use Rattle.std.proofs.lemmas.Result.{err_from_is_err_and}
use Rattle.encaps_optionals.specs.Usable.{tcp_at}
use Rattle.retry_core.specs.declared.attempt.Attempt.TheVariants.{NotConnected}
use Rattle.ice_client.specs.ClientDid.{goes_again, Ended, had}
use Rattle.ice_client.proofs.Counting.{rises}
use Rattle.ice_client.proofs.Delivering.{each_number, made_none, made_more, begun, newest, another, the_last, cut_off, no_place, some_place, unplaced, placed}
use Rattle.ice_client.proofs.invoking.deliver.Goals as goal

pub returns-then-is_none-clause-told : goal.returns-then-is_none-clause-told
returns-then-is_none-clause-told g c = (
  [],
  made_none c.args.proxy.now.endpoints (g.N.Net.told c.args.net.now) (g.N.Net.failures c.args.net.now),
  unplaced c.args.outgoing.now c.args.proxy.now.endpoints c.args.retries c.new.result c.new.ensures (no_place _ c.tcp_of.result (tcp_at 0 c.args.proxy.now.endpoints) c.if-is_none.ensures c.tcp_of.ensures),
)

pub returns-in_err-client-clause-told : goal.returns-in_err-client-clause-told
returns-in_err-client-clause-told g c =
    let failed = err_from_is_err_and c.from_residual.result c.from_residual.ensures.1 in
    rw failed.1 ([], made_none c.args.proxy.now.endpoints (g.N.Net.told c.args.net.now) (g.N.Net.failures c.args.net.now), (inl refl, tt, λ e. refl))

pub loop-client-init : goal.loop-client-init
loop-client-init g c = record {
  tried = [];
  made = made_none c.args.proxy.now.endpoints (g.N.Net.told c.args.net.now) (g.N.Net.failures c.args.net.now);
  under_way = begun c.args.outgoing.now c.args.retries c.in_ok-client.client c.requires (search rules);
  kept = refl;
}

pub attempt_once-requires-clause-place : goal.attempt_once-requires-clause-place
attempt_once-requires-clause-place g c κs within =
    each_number c.args.proxy.now.endpoints c.loop-client.number (some_place _ c.tcp_of.result (tcp_at 0 c.args.proxy.now.endpoints) c.if-is_none.ensures c.tcp_of.ensures)

pub returns-in_err-once-clause-told : goal.returns-in_err-once-clause-told
returns-in_err-once-clause-told g c =
    let failed = err_from_is_err_and c.from_residual-in_err-once.result c.from_residual-in_err-once.ensures.1 in
    let i = c.loop-client.invariant in
    let once = c.in_err-once.ensures.told in
    let t = newest NotConnected once.0 in
    rw failed.1 (
      i.tried ++ t ∷ [],
      made_more c.args.proxy.now.endpoints c.loop-client.number i.tried t (g.N.Net.told c.args.net.now) (g.N.Net.told c.loop-client.net) (g.N.Net.told c.attempt_once.new.net) (g.N.Net.failures c.args.net.now) (g.N.Net.failures c.loop-client.net)
          (g.N.Net.failures c.attempt_once.new.net) i.under_way.counted i.made once.1 once.2,
      cut_off c.args.outgoing.now c.args.proxy.now.endpoints c.args.retries c.loop-client.number i.tried c.loop-client.client NotConnected once.0
          (some_place _ c.tcp_of.result (tcp_at 0 c.args.proxy.now.endpoints) c.if-is_none.ensures c.tcp_of.ensures) i.under_way once.3,
    )

pub returns-then-not-goes_again-clause-told : goal.returns-then-not-goes_again-clause-told
returns-then-not-goes_again-clause-told g c =
    let i = c.loop-client.invariant in
    let once = c.in_ok-once.ensures.told in
    let t = newest once.3.0 once.0 in
    let last = the_last c.args.outgoing.now c.args.retries c.loop-client.number i.tried c.loop-client.client c.attempt_once.new.client once.3.0 once.0 c.in_ok-once.once i.under_way once.3.1 once.3.2 (sym c.if-not-goes_again.ensures) in (
      i.tried ++ t ∷ [],
      made_more c.args.proxy.now.endpoints c.loop-client.number i.tried t (g.N.Net.told c.args.net.now) (g.N.Net.told c.loop-client.net) (g.N.Net.told c.attempt_once.new.net) (g.N.Net.failures c.args.net.now) (g.N.Net.failures c.loop-client.net)
          (g.N.Net.failures c.attempt_once.new.net) i.under_way.counted i.made once.1 once.2,
      record {
        attempts = c.from_vec.ensures ∙ c.into_attempts.ensures ∙ last.0;
        ended = last.1;
        placed = placed c.args.proxy.now.endpoints (i.tried ++ t ∷ []) c.in_ok-once.once.outcome (some_place _ c.tcp_of.result (tcp_at 0 c.args.proxy.now.endpoints) c.if-is_none.ensures c.tcp_of.ensures) last.2;
        uncached = last.3;
      },
    )

pub loop-client-smaller : goal.loop-client-smaller
loop-client-smaller g c =
    let i = c.loop-client.invariant in
    let once = c.in_ok-once.ensures.told in
    let on : goes_again c.in_ok-once.once.action ≡ true = search rules in
    (another c.args.outgoing.now c.args.retries c.loop-client.number i.tried c.loop-client.client c.attempt_once.new.client once.3.0 once.0 c.in_ok-once.once i.under_way once.3.1 once.3.2 on).1

pub loop-client-preserved : goal.loop-client-preserved
loop-client-preserved g c =
    let i = c.loop-client.invariant in
    let once = c.in_ok-once.ensures.told in
    let on : goes_again c.in_ok-once.once.action ≡ true = search rules in
    let t = newest once.3.0 once.0 in
    record {
      tried = i.tried ++ t ∷ [];
      made = made_more c.args.proxy.now.endpoints c.loop-client.number i.tried t (g.N.Net.told c.args.net.now) (g.N.Net.told c.loop-client.net) (g.N.Net.told c.attempt_once.new.net) (g.N.Net.failures c.args.net.now) (g.N.Net.failures c.loop-client.net)
          (g.N.Net.failures c.attempt_once.new.net) i.under_way.counted i.made once.1 once.2;
      under_way = (another c.args.outgoing.now c.args.retries c.loop-client.number i.tried c.loop-client.client c.attempt_once.new.client once.3.0 once.0 c.in_ok-once.once i.under_way once.3.1 once.3.2 on).0;
      kept = c.in_ok-once.ensures.kept ∙ i.kept;
    }

pub returns-then-not-goes_again-clause-fails : goal.returns-then-not-goes_again-clause-fails
returns-then-not-goes_again-clause-fails g c = λ net_failed.
    let i = c.loop-client.invariant in
    let once = c.in_ok-once.ensures.told in
    let t = newest once.3.0 once.0 in
    let tried = i.tried ++ t ∷ [] in
    let last = the_last c.args.outgoing.now c.args.retries c.loop-client.number i.tried c.loop-client.client c.attempt_once.new.client once.3.0 once.0 c.in_ok-once.once i.under_way once.3.1 once.3.2 (sym c.if-not-goes_again.ensures) in
    rises c.args.outgoing.now c.args.proxy.now.endpoints c.args.retries tried (g.N.Net.told c.args.net.now) (g.N.Net.told c.attempt_once.new.net) (g.N.Net.failures c.args.net.now) (g.N.Net.failures c.attempt_once.new.net)
    (made_more c.args.proxy.now.endpoints c.loop-client.number i.tried t (g.N.Net.told c.args.net.now) (g.N.Net.told c.loop-client.net) (g.N.Net.told c.attempt_once.new.net) (g.N.Net.failures c.args.net.now) (g.N.Net.failures c.loop-client.net)
    (g.N.Net.failures c.attempt_once.new.net) i.under_way.counted i.made once.1 once.2)
    (subst (Ended c.args.outgoing.now c.args.retries tried) (ap had net_failed) last.1)
