-- What a locator knows: where objects and adapters are. (Ice manual, "Locators".)
use Rattle.std.specs.Prelude.{ℕ, ◌≡◌, ◌<◌, ◌≤◌, List, [], length, Result, Ok, Err, Some, slice_get}
use Rattle.std.specs.List.{insert}
use Rattle.std.specs.Ordering.{nat_cmp}
use Rattle.std.specs.Cmp.Lexicographic.{slice_cmp}
use Rattle.std.specs.declared.cmp.Ordering.{Ordering}
use Rattle.ice_types.specs.declared.identity.Identity.{Identity}
use Rattle.ice_types.specs.declared.proxy.Proxy.{Proxy}
use Rattle.ice_encoding.specs.Proxies.{identity_cmp}
use Rattle.ice_encoding.specs.Proxy.{HasProxySizes}
use Rattle.object_adapter.specs.declared.add_fault.AddFault.{AddFault}
use Rattle.object_adapter.specs.declared.add_fault.AddFault.TheVariants as add_faults
use Rattle.object_adapter.specs.declared.places.TheConstants.{MOST_PLACES}
use Rattle.object_adapter.specs.Rising.{Rises, IsGap}

-- the place of each object by its identity, and of each adapter by its id
pub record Known : Type 0 where
  pub objects : List (Identity × Proxy)
  pub adapters : List (List ℕ × Proxy)

abbrev pub no_places : Known
no_places = record { objects = []; adapters = [] }

abbrev pub by_identity : Identity × Proxy → Identity
by_identity place = place.0

abbrev pub by_id : List ℕ × Proxy → List ℕ
by_id place = place.0

-- in rising order, so each once, a thousand at most, and each can be spelled
pub record ArePlacesBy {K : Type 0} (cmp : K → K → Ordering) (places : List (K × Proxy)) : Type 0 where
  pub rising : Rises cmp (λ place. place.0) places
  pub room : length places ≤ MOST_PLACES
  pub sizes : (at : ℕ) (place : K × Proxy) → slice_get places at ≡ Some place → HasProxySizes (Some place.1)

pub record ArePlaces (p : Known) : Type 0 where
  pub objects : ArePlacesBy identity_cmp p.objects
  pub adapters : ArePlacesBy (slice_cmp nat_cmp) p.adapters

-- what has this key is at this proxy
abbrev pub IsAt : {K : Type 0} → List (K × Proxy) → K → Proxy → Type 0
IsAt places key p = (at : ℕ) × (slice_get places at ≡ Some (key, p))

abbrev pub IsKnown : {K : Type 0} → List (K × Proxy) → K → Type 0
IsKnown places key = (p : Proxy) × IsAt places key p

-- what comes of adding a place
abbrev pub AddsPlace : {K : Type 0} → (K → K → Ordering) → List (K × Proxy) → K × Proxy → Result (Unit {0}) AddFault → List (K × Proxy) → Type 0
AddsPlace cmp old place (Ok done) new = (IsKnown old place.0 → ⊥) × (length old < MOST_PLACES) × (at : ℕ) × IsGap cmp (λ p. p.0) old place.0 at × (new ≡ insert old at place)
AddsPlace cmp old place (Err add_faults.Twice) new = IsKnown old place.0
AddsPlace cmp old place (Err add_faults.Full) new = (IsKnown old place.0 → ⊥) × (length old ≡ MOST_PLACES)
AddsPlace cmp old place (Err add_faults.Memory) new = Unit {0}
