-- One attempt at a message whose proxy is resolved first, and the places that are kept then.
use Rattle.std.specs.Prelude.{ℕ, ◌≡◌, ◌⊎◌, Bool, true, false, ◌&&◌, List, [], ◌∷◌, ◌++◌, Option, None, Some, IsSome, option_copied, if◌then◌else◌}
use Rattle.ice_types.specs.declared.proxy.Proxy.{Proxy}
use Rattle.encaps_optionals.specs.Usable.{tcp_at}
use Rattle.retry_core.specs.declared.attempt.Attempt.{Attempt}
use Rattle.retry_core.specs.declared.attempt.Attempt.TheVariants as tries
use Rattle.retry_core.specs.Client.{Invoking}
use Rattle.ice_client.specs.Asking.{HasRow, IsOver}
use Rattle.ice_client.specs.ClientDid.{Tried}
use Rattle.ice_client.specs.declared.outcome.Outcome.TheVariants.{NetFailed}
use Rattle.ice_client.specs.declared.outgoing.Outgoing.{Outgoing}
use Rattle.locator.specs.declared.key.Key.{Key}
use Rattle.locator.specs.declared.resolving.Resolved.TheVariants.{Direct, Unknown, Failed}
use Rattle.locator.specs.declared.step.Step.{Step}
use Rattle.locator.specs.declared.step.Step.TheVariants.{Over, NoEndpoint, NotLocated, LocatorFailed}
use Rattle.locator.specs.declared.step.Target as given
use Rattle.locator.specs.Caches.{Kept, without}
use Rattle.locator.specs.Keys.{key_of}
use Rattle.locator.specs.Resolving.{Resolves}
use Rattle.locator.specs.Rounds.{Round, attempt}

-- to whom a message goes, by which locator, and how often it is tried again
pub record Target : Type 0 where
  pub locator : Option Proxy
  pub proxy : Proxy
  pub retries : ℕ

abbrev pub target_of : given.Target → Target
target_of t = record { locator = option_copied t.locator; proxy = t.proxy.now; retries = t.retries }

-- ---- what is kept after an attempt

-- an attempt that ended so tells that the object is not at the place
abbrev pub is_elsewhere : Attempt → Bool
is_elsewhere tries.NotConnected = true
is_elsewhere tries.NotWhole = false
is_elsewhere tries.Sent = false
is_elsewhere tries.Lost = false
is_elsewhere tries.Closed = false
is_elsewhere tries.Stale = true
is_elsewhere tries.Broke = false
is_elsewhere tries.Replied = false

-- so the last one
abbrev pub ended_elsewhere : List Attempt → Bool
ended_elsewhere [] = false
ended_elsewhere (a ∷ []) = is_elsewhere a
ended_elsewhere (a ∷ b ∷ rest) = ended_elsewhere (b ∷ rest)

-- a place of the cache is forgotten after such an attempt at it, and after no other
abbrev pub left_by : Key → Bool → Attempt → Kept → Kept
left_by key cached a places = if cached && is_elsewhere a then without key places else places

-- the same of the last of these
abbrev pub left_after : Key → Bool → List Attempt → Kept → Kept
left_after key cached attempts places = if cached && ended_elsewhere attempts then without key places else places

-- ---- a step

-- The attempt with this number was made at the place, which came from the cache or not. None is want of memory, which cuts it
-- off, and forgets nothing.
abbrev pub AttemptsAt : Proxy → Bool → Key → Outgoing → ℕ → Invoking → Invoking → Kept → List Round → Kept → Option Step → Type 0
AttemptsAt place cached key o number i j old rounds new None = (t : Tried) × (rounds ≡ attempt place number t ∷ []) × (new ≡ old)
AttemptsAt place cached key o number i j old rounds new (Some (Over once)) = IsSome (tcp_at number place.endpoints)
    × ((t : Tried) × (rounds ≡ attempt place number t ∷ []) × (t.cached ≡ cached) × HasRow o cached t.attempt once.outcome t.talk × IsOver i j t.attempt once × (new ≡ left_by key cached t.attempt old))
AttemptsAt place cached key o number i j old rounds new (Some NoEndpoint) = (tcp_at number place.endpoints ≡ None) × (rounds ≡ []) × (new ≡ old) × (j ≡ i)
AttemptsAt place cached key o number i j old rounds new (Some NotLocated) = ⊥
AttemptsAt place cached key o number i j old rounds new (Some (LocatorFailed r)) = ⊥

-- a resolution, and where it led to a place, the attempt there
abbrev pub GoesOn : Target → Outgoing → ℕ → Invoking → Invoking → Kept → List Round → Kept → Option Step → Type 0
GoesOn t o number i j old rounds new s = (asked more : List Round) × (mid : Kept) × (place : Proxy) × (cached : Bool) × (rounds ≡ asked ++ more)
    × Resolves old t.locator t.proxy t.retries asked mid (Some (Direct place cached)) × AttemptsAt place cached (key_of t.proxy) o number i j mid more new s

abbrev pub Steps : Target → Outgoing → ℕ → Invoking → Invoking → Kept → List Round → Kept → Option Step → Type 0
Steps t o number i j old rounds new None = Resolves old t.locator t.proxy t.retries rounds new None ⊎ GoesOn t o number i j old rounds new None
Steps t o number i j old rounds new (Some (Over once)) = GoesOn t o number i j old rounds new (Some (Over once))
Steps t o number i j old rounds new (Some NoEndpoint) = GoesOn t o number i j old rounds new (Some NoEndpoint)
Steps t o number i j old rounds new (Some NotLocated) = Resolves old t.locator t.proxy t.retries rounds new (Some Unknown) × (j ≡ i)
Steps t o number i j old rounds new (Some (LocatorFailed r)) = Resolves old t.locator t.proxy t.retries rounds new (Some (Failed r)) × (j ≡ i)

-- the net failed
abbrev pub IsFailure : Step → Type 0
IsFailure (Over once) = once.outcome ≡ NetFailed
IsFailure NoEndpoint = ⊥
IsFailure NotLocated = ⊥
IsFailure (LocatorFailed r) = r.outcome ≡ NetFailed
