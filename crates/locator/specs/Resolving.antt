-- The endpoints of a proxy: its own, those that are kept for it, or those that a locator tells. (Ice manual, "Locators".)
use Rattle.std.specs.Prelude.{ℕ, ◌≡◌, true, false, List, [], ◌∷◌, Option, None, Some, IfSome, Result, Ok, Err}
use Rattle.ice_types.specs.declared.proxy.Endpoint.{Endpoint}
use Rattle.ice_types.specs.declared.proxy.Proxy.{Proxy}
use Rattle.ice_client.specs.declared.outcome.Outcome.TheVariants.{NetFailed}
use Rattle.locator.specs.declared.asking.Found.{Found}
use Rattle.locator.specs.declared.asking.Found.TheVariants as founds
use Rattle.locator.specs.declared.resolving.Resolved.{Resolved}
use Rattle.locator.specs.declared.resolving.Resolved.TheVariants.{Direct, Unknown, Failed}
use Rattle.locator.specs.Asking.{Finds}
use Rattle.locator.specs.Caches.{Kept, kept_by, keeping}
use Rattle.locator.specs.Keys.{key_of}
use Rattle.locator.specs.Rounds.{Round, AreAt}

-- ---- where they come from

pub data Route : Type 0 where
  -- from the proxy
  by_itself : Route
  -- from the cache, which keeps these
  from_cache : List Endpoint → Route
  -- from this locator, which is asked
  by_locator : Proxy → Route
  -- from nowhere
  no_route : Route

abbrev pub beyond : Option Proxy → Route
beyond (Some locator) = by_locator locator
beyond None = no_route

abbrev pub route_by : List Endpoint → Option (List Endpoint) → Option Proxy → Route
route_by (e ∷ es) kept locator = by_itself
route_by [] (Some endpoints) locator = from_cache endpoints
route_by [] None locator = beyond locator

-- The locator is asked where the proxy has no endpoints, the cache keeps nothing for it, and a locator is given.
abbrev pub route : Kept → Option Proxy → Proxy → Route
route places locator p = route_by p.endpoints (kept_by (key_of p) places) locator

-- ---- what comes of it

-- the proxy at these endpoints, and behind no adapter
abbrev pub placed : Proxy → List Endpoint → Proxy
placed p endpoints = record p { endpoints = endpoints; adapter = [] }

-- endpoints that a locator found are kept; whatever else it came to changes nothing
abbrev pub Settles : Kept → Proxy → Found → Kept → Resolved → Type 0
Settles old p (founds.At endpoints) new r = (new ≡ keeping (key_of p) endpoints old) × (r ≡ Direct (placed p endpoints) false)
Settles old p founds.Nowhere new r = (new ≡ old) × (r ≡ Unknown)
Settles old p (founds.Failed invoked) new r = (new ≡ old) × (r ≡ Failed invoked)

-- None is want of memory, which changes nothing
abbrev pub SettlesOrEnds : Kept → Proxy → Found → Kept → Option Resolved → Type 0
SettlesOrEnds old p f new None = new ≡ old
SettlesOrEnds old p f new (Some r) = Settles old p f new r

abbrev pub By : Route → Kept → Proxy → ℕ → List Round → Kept → Option Resolved → Type 0
By by_itself old p retries rounds new r = (rounds ≡ []) × (new ≡ old) × IfSome r (λ x. x ≡ Direct p false)
By (from_cache endpoints) old p retries rounds new r = (rounds ≡ []) × (new ≡ old) × IfSome r (λ x. x ≡ Direct (placed p endpoints) true)
By (by_locator locator) old p retries rounds new None = AreAt locator rounds × (new ≡ old)
By (by_locator locator) old p retries rounds new (Some r) = (f : Found) × Finds locator retries (key_of p) rounds f × Settles old p f new r
By no_route old p retries rounds new r = (rounds ≡ []) × (new ≡ old) × IfSome r (λ x. x ≡ Unknown)

-- The places that are kept before and then, and where the proxy leads, with the rounds of attempts at the locator; None is
-- want of memory.
abbrev pub Resolves : Kept → Option Proxy → Proxy → ℕ → List Round → Kept → Option Resolved → Type 0
Resolves old locator p retries rounds new r = By (route old locator p) old p retries rounds new r

-- ---- answers

-- what was answered, and none where memory ran out
abbrev pub got : {A E : Type 0} → Result A E → Option A
got (Ok x) = Some x
got (Err e) = None

-- the net failed the locator's invocation
abbrev pub IsFailure : Resolved → Type 0
IsFailure (Direct p cached) = ⊥
IsFailure Unknown = ⊥
IsFailure (Failed invoked) = invoked.outcome ≡ NetFailed
