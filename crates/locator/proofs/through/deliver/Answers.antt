use Rattle.std.proofs.Common.{rules, ◌≡◌, ◌∷◌, ◌++◌, ◌∙◌, [], List, Some, refl, sym, subst}
use Rattle.std.proofs.lemmas.Result.{err_from_is_err_and}
use Rattle.ice_client.specs.ClientDid.{Rises}
use Rattle.ice_client.specs.declared.outcome.Outcome.TheVariants as outcomes
use Rattle.locator.specs.declared.step.Step.{Step}
use Rattle.locator.specs.Rounds.{Round, WereMade}
use Rattle.locator.specs.Steps.{Steps, IsFailure, target_of}
use Rattle.locator.specs.Through.{rounds_of}
use Rattle.locator.proofs.Made.{made_nothing, made_then, made_rises}
use Rattle.locator.proofs.Legs.{begun}
use Rattle.locator.proofs.Delivering.{starved_at_once, starved, unplaced, unlocated, failed, leg_of, went_on, rounds_on, ended_here, goes_on_here}
use Rattle.locator.proofs.through.deliver.Goals as goal

pub returns-in_err-key-clause-told : goal.returns-in_err-key-clause-told
returns-in_err-key-clause-told g c =
    let failure = err_from_is_err_and c.from_residual.result c.from_residual.ensures.1 in
    rw failure.1 ([], made_nothing (g.N.Net.told c.args.net.now) (g.N.Net.failures c.args.net.now), starved_at_once (target_of c.args.target) c.args.outgoing.now c.args.cache.now)

pub returns-in_err-client-clause-told : goal.returns-in_err-client-clause-told
returns-in_err-client-clause-told g c =
    let failure = err_from_is_err_and c.from_residual-in_err-client.result c.from_residual-in_err-client.ensures.1 in
    rw failure.1 ([], made_nothing (g.N.Net.told c.args.net.now) (g.N.Net.failures c.args.net.now), starved_at_once (target_of c.args.target) c.args.outgoing.now c.args.cache.now)

pub loop-client-init : goal.loop-client-init
loop-client-init g c = record {
  keyed = c.in_ok-key.ensures;
  legs = [];
  made = made_nothing (g.N.Net.told c.args.net.now) (g.N.Net.failures c.args.net.now);
  went = refl;
  under_way = begun c.args.outgoing.now c.args.target.retries c.in_ok-client.client c.requires (search rules);
  kept = refl;
}

pub take_step-requires-clause-key : goal.take_step-requires-clause-key
take_step-requires-clause-key g c κs within = c.loop-client.invariant.keyed

pub returns-in_err-step-clause-told : goal.returns-in_err-step-clause-told
returns-in_err-step-clause-told g c =
    let failure = err_from_is_err_and c.from_residual-in_err-step.result c.from_residual-in_err-step.ensures.1 in
    let i = c.loop-client.invariant in
    let told = c.in_err-step.ensures.told in
    rw failure.1 (rounds_of 0 i.legs ++ told.0, made_then (rounds_of 0 i.legs) told.0 _ _ _ _ _ _ i.made told.1, starved (target_of c.args.target) c.args.outgoing.now c.args.cache.now c.loop-client.cache i.legs c.loop-client.number c.loop-client.client i.went i.under_way c.take_step.new.client told.0 c.take_step.new.cache told.2)

pub returns-then-not-goes_again-clause-told : goal.returns-then-not-goes_again-clause-told
returns-then-not-goes_again-clause-told g c =
    let i = c.loop-client.invariant in
    let told = c.in_ok-step.ensures.told in
    let steps = subst (λ (s : Step). Steps (target_of c.args.target) c.args.outgoing.now c.loop-client.number c.loop-client.client c.take_step.new.client c.loop-client.cache told.0 c.take_step.new.cache (Some s)) c.in-Over.is told.2 in
    rw c.invoked.ensures (
      rounds_of 0 i.legs ++ told.0,
      made_then (rounds_of 0 i.legs) told.0 _ _ _ _ _ _ i.made told.1,
      ended_here (target_of c.args.target) c.args.outgoing.now c.args.cache.now c.loop-client.cache i.legs c.loop-client.number c.loop-client.client i.went i.under_way c.take_step.new.client told.0 c.take_step.new.cache c.in-Over.once steps (sym c.if-not-goes_again.ensures) (record { outcome = c.in-Over.once.outcome; attempts = c.take_step.new.client.attempts }) refl refl,
    )

pub returns-then-not-goes_again-clause-fails : goal.returns-then-not-goes_again-clause-fails
returns-then-not-goes_again-clause-fails g c =
    let i = c.loop-client.invariant in
    let fails = subst (λ (s : Step). IsFailure s → Rises (g.N.Net.failures c.loop-client.net) (g.N.Net.failures c.take_step.new.net)) c.in-Over.is c.in_ok-step.ensures.fails in
    rw c.invoked.ensures (λ net_failed. made_rises (rounds_of 0 i.legs) _ _ _ _ _ i.made (fails net_failed))

pub returns-in-NoEndpoint-clause-told : goal.returns-in-NoEndpoint-clause-told
returns-in-NoEndpoint-clause-told g c =
    let i = c.loop-client.invariant in
    let told = c.in_ok-step.ensures.told in
    let steps = subst (λ (s : Step). Steps (target_of c.args.target) c.args.outgoing.now c.loop-client.number c.loop-client.client c.take_step.new.client c.loop-client.cache told.0 c.take_step.new.cache (Some s)) c.in-NoEndpoint.is told.2 in
    rw c.invoked-in-NoEndpoint.ensures (
      rounds_of 0 i.legs ++ told.0,
      made_then (rounds_of 0 i.legs) told.0 _ _ _ _ _ _ i.made told.1,
      unplaced (target_of c.args.target) c.args.outgoing.now c.args.cache.now c.loop-client.cache i.legs c.loop-client.number c.loop-client.client i.went i.under_way c.take_step.new.client told.0 c.take_step.new.cache steps (record { outcome = outcomes.NoEndpoint; attempts = c.take_step.new.client.attempts }) refl refl,
    )

pub returns-in-NoEndpoint-clause-fails : goal.returns-in-NoEndpoint-clause-fails
returns-in-NoEndpoint-clause-fails g c = rw c.invoked-in-NoEndpoint.ensures (λ net_failed. absurd (let z : outcomes.NoEndpoint ≡ outcomes.NetFailed = net_failed in cc))

pub returns-in-NotLocated-clause-told : goal.returns-in-NotLocated-clause-told
returns-in-NotLocated-clause-told g c =
    let i = c.loop-client.invariant in
    let told = c.in_ok-step.ensures.told in
    let steps = subst (λ (s : Step). Steps (target_of c.args.target) c.args.outgoing.now c.loop-client.number c.loop-client.client c.take_step.new.client c.loop-client.cache told.0 c.take_step.new.cache (Some s)) c.in-NotLocated.is told.2 in
    (rounds_of 0 i.legs ++ told.0, made_then (rounds_of 0 i.legs) told.0 _ _ _ _ _ _ i.made told.1, unlocated (target_of c.args.target) c.args.outgoing.now c.args.cache.now c.loop-client.cache i.legs c.loop-client.number c.loop-client.client i.went i.under_way c.take_step.new.client told.0 c.take_step.new.cache steps)

pub returns-in-LocatorFailed-clause-told : goal.returns-in-LocatorFailed-clause-told
returns-in-LocatorFailed-clause-told g c =
    let i = c.loop-client.invariant in
    let told = c.in_ok-step.ensures.told in
    let steps = subst (λ (s : Step). Steps (target_of c.args.target) c.args.outgoing.now c.loop-client.number c.loop-client.client c.take_step.new.client c.loop-client.cache told.0 c.take_step.new.cache (Some s)) c.in-LocatorFailed.is told.2 in
    (rounds_of 0 i.legs ++ told.0, made_then (rounds_of 0 i.legs) told.0 _ _ _ _ _ _ i.made told.1, failed (target_of c.args.target) c.args.outgoing.now c.args.cache.now c.loop-client.cache i.legs c.loop-client.number c.loop-client.client i.went i.under_way c.take_step.new.client told.0 c.take_step.new.cache c.in-LocatorFailed.failed steps)

pub returns-in-LocatorFailed-clause-fails : goal.returns-in-LocatorFailed-clause-fails
returns-in-LocatorFailed-clause-fails g c =
    let i = c.loop-client.invariant in
    let fails = subst (λ (s : Step). IsFailure s → Rises (g.N.Net.failures c.loop-client.net) (g.N.Net.failures c.take_step.new.net)) c.in-LocatorFailed.is c.in_ok-step.ensures.fails in
    λ net_failed. made_rises (rounds_of 0 i.legs) _ _ _ _ _ i.made (fails net_failed)

pub loop-client-smaller : goal.loop-client-smaller
loop-client-smaller g c =
    let i = c.loop-client.invariant in
    let told = c.in_ok-step.ensures.told in
    let steps = subst (λ (s : Step). Steps (target_of c.args.target) c.args.outgoing.now c.loop-client.number c.loop-client.client c.take_step.new.client c.loop-client.cache told.0 c.take_step.new.cache (Some s)) c.in-Over.is told.2 in
    (goes_on_here (target_of c.args.target) c.args.outgoing.now c.args.cache.now c.loop-client.cache i.legs c.loop-client.number c.loop-client.client i.went i.under_way c.take_step.new.client told.0 c.take_step.new.cache c.in-Over.once steps (sym c.if-not-goes_again.ensures)).1

pub loop-client-preserved : goal.loop-client-preserved
loop-client-preserved g c =
    let i = c.loop-client.invariant in
    let told = c.in_ok-step.ensures.told in
    let steps = subst (λ (s : Step). Steps (target_of c.args.target) c.args.outgoing.now c.loop-client.number c.loop-client.client c.take_step.new.client c.loop-client.cache told.0 c.take_step.new.cache (Some s)) c.in-Over.is told.2 in
    record {
      keyed = i.keyed;
      legs = i.legs ++ leg_of steps.0 steps.3 steps.7.1.0 ∷ [];
      made = subst (λ (rs : List Round). WereMade rs (g.N.Net.told c.args.net.now) (g.N.Net.told c.take_step.new.net) (g.N.Net.failures c.args.net.now) (g.N.Net.failures c.take_step.new.net)) (rounds_on (target_of c.args.target) c.args.outgoing.now c.args.cache.now c.loop-client.cache i.legs c.loop-client.number c.loop-client.client i.went i.under_way c.take_step.new.client told.0 c.take_step.new.cache c.in-Over.once steps) (made_then (rounds_of 0 i.legs) told.0 _ _ _ _ _ _ i.made told.1);
      went = went_on (target_of c.args.target) c.args.outgoing.now c.args.cache.now c.loop-client.cache i.legs c.loop-client.number c.loop-client.client i.went i.under_way c.take_step.new.client told.0 c.take_step.new.cache c.in-Over.once steps;
      under_way = (goes_on_here (target_of c.args.target) c.args.outgoing.now c.args.cache.now c.loop-client.cache i.legs c.loop-client.number c.loop-client.client i.went i.under_way c.take_step.new.client told.0 c.take_step.new.cache c.in-Over.once steps (sym c.if-not-goes_again.ensures)).0;
      kept = c.in_ok-step.ensures.kept ∙ i.kept;
    }
