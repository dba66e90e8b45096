-- What attempts come to, each behind a resolution.
use Rattle.std.proofs.Common.{◌≡◌, ℕ, ◌+◌, ◌<◌, ◌≤◌, inl, inr, Bool, true, false, List, [], ◌∷◌, ◌++◌, length, Option, None, Some, Ok, Err, IsSome, refl, sym, ap, subst, ◌∙◌, arith, append-nil}
use Rattle.ice_types.specs.declared.proxy.Proxy.{Proxy}
use Rattle.ice_encoding.specs.declared.limits.TheConstants.{LARGEST}
use Rattle.ice_messages.specs.declared.fault.WriteFault.{WriteFault}
use Rattle.ice_messages.specs.declared.fault.WriteFault.TheVariants.{TooLong, Memory}
use Rattle.ice_messages.specs.declared.message.Message.{Message}
use Rattle.ice_messages.specs.Messages.{message_bytes}
use Rattle.encaps_optionals.specs.Usable.{tcp_at}
use Rattle.retry_core.specs.Client.{Invoking}
use Rattle.ice_client.specs.Asking.{HasRow}
use Rattle.ice_client.specs.Sending.{IsOf, Prepares}
use Rattle.ice_client.specs.ClientDid.{Tried, ClientDid, Ended, had, goes_again}
use Rattle.ice_client.specs.declared.outcome.Once.{Once}
use Rattle.ice_client.specs.declared.outcome.Invoked as invoking
use Rattle.ice_client.specs.declared.outcome.Outcome.{Outcome}
use Rattle.ice_client.specs.declared.outcome.Outcome.TheVariants as outcomes
use Rattle.ice_client.specs.declared.outgoing.Outgoing.{Outgoing}
use Rattle.locator.specs.declared.resolving.Resolved.TheVariants.{Direct}
use Rattle.locator.specs.declared.step.Step.TheVariants.{Over, NoEndpoint, NotLocated, LocatorFailed}
use Rattle.locator.specs.declared.through.Through.{Through}
use Rattle.locator.specs.declared.through.Through.TheVariants as throughs
use Rattle.locator.specs.Caches.{Kept}
use Rattle.locator.specs.Keys.{key_of}
use Rattle.locator.specs.Resolving.{Resolves}
use Rattle.locator.specs.Rounds.{Round, attempt}
use Rattle.locator.specs.Steps.{Target, GoesOn, Steps, left_by}
use Rattle.locator.specs.Through.{Leg, tried_of, rounds_of, Went, Starves, EndsBy, Delivered, Delivers, GoesThrough}
use Rattle.locator.proofs.Routes as routes
use Rattle.locator.proofs.Legs.{IsUnderWay, unended, another, the_last, rounds_more, went_more}

-- ---- want of memory in a step

starves : (t : Target) (o : Outgoing) (number : ℕ) (i j : Invoking) (old new : Kept) (rounds : List Round) → Steps t o number i j old rounds new None → Starves t number old rounds new
starves t o number i j old new rounds (inl resolved) = inl resolved
starves t o number i j old new rounds (inr (asked, more, mid, place, cached, are, resolved, (cut, is, same))) =
    inr (asked, place, cached, cut, are ∙ ap (λ (z : List Round). asked ++ z) is, subst (λ (k : Kept). Resolves old t.locator t.proxy t.retries asked k (Some (Direct place cached))) (sym same) resolved)

-- before anything was done
pub starved_at_once : (t : Target) (o : Outgoing) (old : Kept) → Delivers (Ended o t.retries) t old [] old None
starved_at_once t o old = ([], record { rest = []; mid = old; rounds_are = refl; went = refl; did = (tt, omega arith); end = inl (routes.starved old t.locator t.proxy t.retries) })

-- ---- what is tried behind some attempts

abbrev pub leg_of : List Round → Proxy → Tried → Leg
leg_of asked place tried = record { asked = asked; place = place; tried = tried }

module _ (t : Target) (o : Outgoing) (old here : Kept) (legs : List Leg) (number : ℕ) (i : Invoking) (went : Went t 0 old legs here) (p : IsUnderWay o t.retries number legs i) (j : Invoking) (rounds : List Round) (new : Kept) where
  at_number : (P : ℕ → Type 0) → P number → P (length legs)
  at_number P h = subst P p.counted h

  -- memory ran out
  pub starved : Steps t o number i j here rounds new None → Delivers (Ended o t.retries) t old (rounds_of 0 legs ++ rounds) new None
  starved steps = (
    legs,
    record {
      rest = rounds;
      mid = here;
      rounds_are = refl;
      went = went;
      did = unended o t.retries number legs i p;
      end = at_number (λ (k : ℕ). Starves t k here rounds new) (starves t o number i j here new rounds steps);
    },
  )

  -- there was no endpoint
  pub unplaced : Steps t o number i j here rounds new (Some NoEndpoint) → (r : invoking.Invoked) → r.outcome ≡ outcomes.NoEndpoint → r.attempts ≡ j.attempts → Delivers (Ended o t.retries) t old (rounds_of 0 legs ++ rounds) new (Some (throughs.Invoked r))
  unplaced (asked, more, mid, place, cached, are, resolved, (lacks, none, same, still)) r is listed =
      let whole : rounds ≡ asked = are ∙ ap (λ (z : List Round). asked ++ z) none ∙ append-nil asked in
      let there : Resolves here t.locator t.proxy t.retries rounds new (Some (Direct place cached)) =
      subst (λ (rs : List Round). Resolves here t.locator t.proxy t.retries rs new (Some (Direct place cached))) (sym whole)
      (subst (λ (k : Kept). Resolves here t.locator t.proxy t.retries asked k (Some (Direct place cached))) (sym same) resolved) in
      let lost : had r.outcome ≡ None = ap had is in (
        legs,
        listed ∙ ap (λ (x : Invoking). x.attempts) still ∙ p.listed,
        record {
          rest = rounds;
          mid = here;
          rounds_are = refl;
          went = went;
          did = subst (Ended o t.retries (tried_of legs)) (sym lost) (unended o t.retries number legs i p);
          end = subst (λ (x : Option Outcome). EndsBy t x (length legs) here rounds new) (sym lost) (place, cached, there, subst (λ (k : ℕ). tcp_at k place.endpoints ≡ None) p.counted lacks);
        },
      )

  -- the resolution led to no place
  pub unlocated : Steps t o number i j here rounds new (Some NotLocated) → Delivers (Ended o t.retries) t old (rounds_of 0 legs ++ rounds) new (Some throughs.NotLocated)
  unlocated steps = (
    legs,
    record { rest = rounds; mid = here; rounds_are = refl; went = went; did = unended o t.retries number legs i p; end = steps.0 },
  )

  pub failed : (r : invoking.Invoked) → Steps t o number i j here rounds new (Some (LocatorFailed r)) → Delivers (Ended o t.retries) t old (rounds_of 0 legs ++ rounds) new (Some (throughs.LocatorFailed r))
  failed r steps = (
    legs,
    record { rest = rounds; mid = here; rounds_are = refl; went = went; did = unended o t.retries number legs i p; end = steps.0 },
  )

  -- an attempt was made
  module _ (once : Once) (steps : GoesOn t o number i j here rounds new (Some (Over once))) where
    row : HasRow o steps.7.1.0.cached steps.7.1.0.attempt once.outcome steps.7.1.0.talk
    row = subst (λ (b : Bool). HasRow o b steps.7.1.0.attempt once.outcome steps.7.1.0.talk) (sym steps.7.1.2) steps.7.1.3

    pub went_on : Went t 0 old (legs ++ leg_of steps.0 steps.3 steps.7.1.0 ∷ []) new
    went_on = went_more t 0 old legs here (leg_of steps.0 steps.3 steps.7.1.0) steps.2 new went
        (subst (λ (b : Bool). Resolves here t.locator t.proxy t.retries steps.0 steps.2 (Some (Direct steps.3 b))) (sym steps.7.1.2) steps.6)
        (subst (λ (k : ℕ). IsSome (tcp_at k steps.3.endpoints)) (omega (arith, p.counted)) steps.7.0)
        (steps.7.1.5 ∙ ap (λ (b : Bool). left_by (key_of t.proxy) b steps.7.1.0.attempt steps.2) (sym steps.7.1.2))

    pub rounds_on : rounds_of 0 legs ++ rounds ≡ rounds_of 0 (legs ++ leg_of steps.0 steps.3 steps.7.1.0 ∷ [])
    rounds_on =
        let at : number ≡ 0 + length legs = omega (arith, p.counted) in
        let one : rounds ≡ steps.0 ++ (attempt steps.3 (0 + length legs) steps.7.1.0 ∷ []) =
        steps.5 ∙ ap (λ (z : List Round). steps.0 ++ z) (steps.7.1.1 ∙ ap (λ (k : ℕ). attempt steps.3 k steps.7.1.0 ∷ []) at) in
        ap (λ (z : List Round). rounds_of 0 legs ++ z) one ∙ sym (rounds_more 0 legs (leg_of steps.0 steps.3 steps.7.1.0))

    -- and it was the last
    pub ended_here : goes_again once.action ≡ false → (r : invoking.Invoked) → r.outcome ≡ once.outcome → r.attempts ≡ j.attempts
        → Delivers (Ended o t.retries) t old (rounds_of 0 legs ++ rounds) new (Some (throughs.Invoked r))
    ended_here again r is listed =
        let last = the_last o t.retries number legs i j (leg_of steps.0 steps.3 steps.7.1.0) once p row steps.7.1.4 again in
        let out : had r.outcome ≡ Some once.outcome = ap had is ∙ last.2 in (
          legs ++ leg_of steps.0 steps.3 steps.7.1.0 ∷ [],
          listed ∙ last.0,
          record {
            rest = [];
            mid = new;
            rounds_are = rounds_on ∙ sym (append-nil (rounds_of 0 (legs ++ leg_of steps.0 steps.3 steps.7.1.0 ∷ [])));
            went = went_on;
            did = subst (λ (x : Outcome). Ended o t.retries (tried_of (legs ++ leg_of steps.0 steps.3 steps.7.1.0 ∷ [])) (had x)) (sym is) last.1;
            end = subst (λ (x : Option Outcome). EndsBy t x (length (legs ++ leg_of steps.0 steps.3 steps.7.1.0 ∷ [])) new [] new) (sym out) (refl, refl);
          },
        )

    -- or another follows
    pub goes_on_here : goes_again once.action ≡ true → IsUnderWay o t.retries (number + 1) (legs ++ leg_of steps.0 steps.3 steps.7.1.0 ∷ []) j × (j.retries < i.retries) × (number + 1 ≤ t.retries)
    goes_on_here again = another o t.retries number legs i j (leg_of steps.0 steps.3 steps.7.1.0) once p row steps.7.1.4 again

-- ---- of the message

did_as : {End : ℕ → Kept → List Round → Kept → Type 0} (Did Next : List Tried → Type 0) (t : Target) (legs : List Leg) (old : Kept) (rounds : List Round) (new : Kept) → (Did (tried_of legs) → Next (tried_of legs)) → Delivered Did End t legs old rounds new
    → Delivered Next End t legs old rounds new
did_as Did Next t legs old rounds new so d = record { rest = d.rest; mid = d.mid; rounds_are = d.rounds_are; went = d.went; did = so d.did; end = d.end }

module _ (m : Message) (o : Outgoing) (is_of : IsOf o m) (t : Target) (old : Kept) (rounds : List Round) (new : Kept) where
  client_did : (tried : List Tried) (outcome : Option Outcome) → Ended o t.retries tried outcome → ClientDid m t.retries tried outcome
  client_did tried outcome ended = record { outgoing = o; is_of = is_of; ended = ended }

  delivers_as : (x : Option Through) → Delivers (Ended o t.retries) t old rounds new x → Delivers (ClientDid m t.retries) t old rounds new x
  delivers_as None (legs, d) = (legs, did_as (λ tried. Ended o t.retries tried None) (λ tried. ClientDid m t.retries tried None) t legs old rounds new (client_did (tried_of legs) None) d)
  delivers_as (Some (throughs.Invoked r)) (legs, listed, d) =
      (legs, listed, did_as (λ tried. Ended o t.retries tried (had r.outcome)) (λ tried. ClientDid m t.retries tried (had r.outcome)) t legs old rounds new (client_did (tried_of legs) (had r.outcome)) d)
  delivers_as (Some throughs.NotLocated) (legs, d) = (legs, did_as (λ tried. Ended o t.retries tried None) (λ tried. ClientDid m t.retries tried None) t legs old rounds new (client_did (tried_of legs) None) d)
  delivers_as (Some (throughs.LocatorFailed r)) (legs, d) = (legs, did_as (λ tried. Ended o t.retries tried None) (λ tried. ClientDid m t.retries tried None) t legs old rounds new (client_did (tried_of legs) None) d)

  pub goes_through : (x : Through) → length (message_bytes m) ≤ LARGEST → Delivers (Ended o t.retries) t old rounds new (Some x) → GoesThrough m t old rounds new (Ok x)
  goes_through x short d = (delivers_as (Some x) d, short)

  pub starves_through : length (message_bytes m) ≤ LARGEST → Delivers (Ended o t.retries) t old rounds new None → GoesThrough m t old rounds new (Err Memory)
  starves_through short d = (inr (delivers_as None d), short)

-- it is too long, or memory runs out before anything is done
pub refused_through : (m : Message) (t : Target) (old : Kept) (e : WriteFault) → Prepares (Err e) m → GoesThrough m t old [] old (Err e)
refused_through m t old (TooLong n) p = (refl, refl, p.0, p.1)
refused_through m t old Memory p = (inl (refl, refl), p)
