use Rattle.std.proofs.Common.{[], ◌∷◌, refl}
use Rattle.std.proofs.lemmas.Result.{err_from_is_err_and}
use Rattle.encaps_optionals.specs.Usable.{tcp_at}
use Rattle.retry_core.specs.declared.attempt.Attempt.TheVariants.{NotConnected}
use Rattle.ice_client.specs.ClientDid.{Tried}
use Rattle.locator.specs.Rounds.{attempt}
use Rattle.locator.proofs.Made.{made_nothing, made_attempt, counted_rises}
use Rattle.locator.proofs.Legs.{row_failed}
use Rattle.locator.proofs.Stepping.{no_place, some_place, attempted_over}
use Rattle.locator.proofs.step.attempt_at.Goals as goal

pub returns-then-is_none-clause-told : goal.returns-then-is_none-clause-told
returns-then-is_none-clause-told g c = (
  [],
  made_nothing (g.N.Net.told c.args.net.now) (g.N.Net.failures c.args.net.now),
  (no_place _ c.tcp_of.result (tcp_at c.args.number c.args.place.now.endpoints) c.if-is_none.ensures c.tcp_of.ensures, refl, refl, refl),
)

pub attempt_once-requires-clause-place : goal.attempt_once-requires-clause-place
attempt_once-requires-clause-place g c κs within = some_place _ c.tcp_of.result (tcp_at c.args.number c.args.place.now.endpoints) c.if-is_none.ensures c.tcp_of.ensures

pub returns-in_err-once-clause-told : goal.returns-in_err-once-clause-told
returns-in_err-once-clause-told g c =
    let failed = err_from_is_err_and c.from_residual.result c.from_residual.ensures.1 in
    let once = c.in_err-once.ensures.told in
    let t : Tried = record { cached = c.args.cached; talk = once.0; attempt = NotConnected } in
    rw failed.1 (attempt c.args.place.now c.args.number t ∷ [], made_attempt c.args.place.now c.args.number t _ _ _ _ once.1 once.2, (t, refl, refl))

pub returns-clause-told : goal.returns-clause-told
returns-clause-told g c =
    let once = c.in_ok-once.ensures.told in
    let t : Tried = record { cached = c.args.cached; talk = once.0; attempt = once.3.0 } in (
      attempt c.args.place.now c.args.number t ∷ [],
      made_attempt c.args.place.now c.args.number t _ _ _ _ once.1 once.2,
      attempted_over c.args.place.now c.args.cached c.args.key.now c.args.outgoing.now c.args.number c.args.client.now c.attempt_once.new.client c.args.cache.now c.leave.new.cache once.0 once.3.0 c.in_ok-once.once
          (some_place _ c.tcp_of.result (tcp_at c.args.number c.args.place.now.endpoints) c.if-is_none.ensures c.tcp_of.ensures) once.3.1 once.3.2 c.attempts.result.now c.attempts.ensures c.leave.ensures,
    )

pub returns-clause-fails : goal.returns-clause-fails
returns-clause-fails g c = λ net_failed.
    let once = c.in_ok-once.ensures.told in
    counted_rises _ _ _ once.2 (row_failed c.args.outgoing.now c.args.cached once.3.0 c.in_ok-once.once.outcome once.0 net_failed once.3.1)
