-- A resolution, and the attempt behind it.
use Rattle.std.proofs.Common.{ℕ, suc, ◌≡◌, ◌-◌, length, arith, inr, Bool, true, false, List, [], ◌∷◌, ◌++◌, Option, None, Some, IsSome, refl, sym, ap, subst, ◌∙◌}
use Rattle.std.specs.Prelude.{is_some, option_map, slice_get, Result, Ok, Err, IfOk}
use Rattle.ice_types.specs.declared.proxy.Proxy.{Proxy}
use Rattle.ice_ports.specs.declared.talk.Talk.{Talk}
use Rattle.ice_ports.specs.Nets.{ToldNet}
use Rattle.encaps_optionals.specs.Usable.{tcp_at}
use Rattle.retry_core.specs.declared.attempt.Attempt.{Attempt}
use Rattle.retry_core.specs.Client.{Invoking}
use Rattle.ice_client.specs.Asking.{HasRow, IsOver}
use Rattle.ice_client.specs.ClientDid.{Rises}
use Rattle.ice_client.specs.declared.outcome.Once.{Once}
use Rattle.ice_client.specs.declared.outgoing.Outgoing.{Outgoing}
use Rattle.locator.specs.declared.key.Key.{Key}
use Rattle.locator.specs.declared.resolving.Resolved.TheVariants.{Direct}
use Rattle.locator.specs.declared.step.Step.{Step}
use Rattle.locator.specs.declared.step.Step.TheVariants.{Over, NoEndpoint, NotLocated, LocatorFailed}
use Rattle.locator.specs.Caches.{Kept}
use Rattle.locator.specs.Keys.{key_of}
use Rattle.locator.specs.Resolving.{Resolves}
use Rattle.locator.specs.Rounds.{Round, WereMade, attempt}
use Rattle.locator.specs.Steps.{Target, AttemptsAt, Steps, ended_elsewhere, is_elsewhere, left_after, left_by, IsFailure}
use Rattle.locator.proofs.Made.{made_rises}

-- ---- the last attempt

last_elsewhere : (before : List Attempt) (a : Attempt) → ended_elsewhere (before ++ a ∷ []) ≡ is_elsewhere a
last_elsewhere [] a = refl
last_elsewhere (b ∷ []) a = refl
last_elsewhere (b ∷ c ∷ before) a = last_elsewhere (c ∷ before) a

pub left_last : (key : Key) (cached : Bool) (before : List Attempt) (a : Attempt) (all : List Attempt) (places : Kept) → all ≡ before ++ a ∷ [] → left_after key cached all places ≡ left_by key cached a places
left_last key cached before a all places is =
    let last : ended_elsewhere all ≡ is_elsewhere a = ap ended_elsewhere is ∙ last_elsewhere before a in
    rw last refl

-- as it is looked at
pub elsewhere_at : (all : List Attempt) (a : Attempt) → Some a ≡ slice_get all (length all - 1) → is_elsewhere a ≡ ended_elsewhere all
elsewhere_at [] a e = absurd cc
elsewhere_at (b ∷ []) a e = let same : a ≡ b = cc in ap is_elsewhere same
elsewhere_at (b ∷ c ∷ rest) a e =
    let at : length (b ∷ c ∷ rest) - 1 ≡ suc (length (c ∷ rest) - 1) = omega arith in
    elsewhere_at (c ∷ rest) a (subst (λ (k : ℕ). Some a ≡ slice_get (b ∷ c ∷ rest) k) at e)

-- ---- an attempt

pub no_place : {A B : Type 0} (f : A → B) (r : Option A) (p : Option B) → is_some r ≡ false → option_map f r ≡ p → p ≡ None
no_place f None p none e = sym e
no_place f (Some x) p none e = absurd cc

pub some_place : {A B : Type 0} (f : A → B) (r : Option A) (p : Option B) → is_some r ≡ true → option_map f r ≡ p → IsSome p
some_place f None p some e = absurd cc
some_place f (Some x) p some e = subst IsSome e refl

-- it is over
pub attempted_over : (place : Proxy) (cached : Bool) (key : Key) (o : Outgoing) (number : ℕ) (i j : Invoking) (old new : Kept) (talk : Option Talk) (a : Attempt) (once : Once) → IsSome (tcp_at number place.endpoints)
    → HasRow o cached a once.outcome talk → IsOver i j a once → (attempts : List Attempt) → attempts ≡ j.attempts → new ≡ left_after key cached attempts old
    → AttemptsAt place cached key o number i j old (attempt place number (record { cached = cached; talk = talk; attempt = a }) ∷ []) new (Some (Over once))
attempted_over place cached key o number i j old new talk a once some row is_over attempts are left =
    let listed : attempts ≡ i.attempts ++ a ∷ [] = are ∙ ap (λ (x : Invoking). x.attempts) is_over.0 in (
      some,
      (record { cached = cached; talk = talk; attempt = a }, refl, refl, row, is_over, left ∙ left_last key cached i.attempts a attempts old listed),
    )

-- ---- a step

pub steps_on : (t : Target) (o : Outgoing) (number : ℕ) (i j : Invoking) (old mid new : Kept) (asked more : List Round) (place : Proxy) (cached : Bool) (s : Option Step) → Resolves old t.locator t.proxy t.retries asked mid (Some (Direct place cached))
    → AttemptsAt place cached (key_of t.proxy) o number i j mid more new s → Steps t o number i j old (asked ++ more) new s
steps_on t o number i j old mid new asked more place cached None resolved did = inr (asked, more, mid, place, cached, refl, resolved, did)
steps_on t o number i j old mid new asked more place cached (Some (Over once)) resolved did = (asked, more, mid, place, cached, refl, resolved, did)
steps_on t o number i j old mid new asked more place cached (Some NoEndpoint) resolved did = (asked, more, mid, place, cached, refl, resolved, did)
steps_on t o number i j old mid new asked more place cached (Some NotLocated) resolved did = absurd did
steps_on t o number i j old mid new asked more place cached (Some (LocatorFailed r)) resolved did = absurd did

-- a failure of the net behind rounds was one since their beginning
pub failed_behind : {E : Type 0} (rounds : List Round) (n0 n1 : Option ToldNet) (f0 f1 f2 : ℕ) (x : Result Step E) → WereMade rounds n0 n1 f0 f1 → IfOk x (λ s. IsFailure s → Rises f1 f2) → IfOk x (λ s. IsFailure s → Rises f0 f2)
failed_behind rounds n0 n1 f0 f1 f2 (Ok s) made fails = λ failed. made_rises rounds n0 n1 f0 f1 f2 made (fails failed)
failed_behind rounds n0 n1 f0 f1 f2 (Err e) made fails = tt
