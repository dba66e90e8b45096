-- The keys of a server's objects: identities with facets. (Ice manual, "Object Identity" and "Facets".)
use Rattle.std.specs.Prelude.{ℕ, ◌≡◌, ◌≤◌, List, length, Some, slice_get}
use Rattle.std.specs.Ordering.{nat_cmp, ordering_then}
use Rattle.std.specs.Cmp.Lexicographic.{slice_cmp}
use Rattle.std.specs.declared.cmp.Ordering.{Ordering}
use Rattle.ice_types.specs.declared.identity.Identity.{Identity}
use Rattle.ice_encoding.specs.Proxies.{identity_cmp}
use Rattle.object_adapter.specs.declared.keys.TheConstants.{MOST_OBJECTS}
use Rattle.object_adapter.specs.declared.keys.Found.{Found}
use Rattle.object_adapter.specs.declared.keys.Found.TheVariants.{At, NoObject, NoFacet}
use Rattle.object_adapter.specs.Rising.{Rises, IsGap}

-- an identity and a facet
abbrev pub Key : Type 0
Key = Identity × List ℕ

-- by the identity, and then by the facet
abbrev pub key_cmp : Key → Key → Ordering
key_cmp a b = ordering_then (identity_cmp a.0 b.0) (slice_cmp nat_cmp a.1 b.1)

abbrev pub itself : Key → Key
itself key = key

-- they rise
abbrev pub KeysRise : List Key → Type 0
KeysRise = Rises key_cmp itself

-- where a key would stand
abbrev pub IsGapFor : List Key → Key → ℕ → Type 0
IsGapFor = IsGap key_cmp itself

-- keys in rising order, so each once, and at most a thousand
pub record AreKeys (keys : List Key) : Type 0 where
  pub rising : KeysRise keys
  pub room : length keys ≤ MOST_OBJECTS

-- a key has this identity
abbrev pub HasIdentity : List Key → Identity → Type 0
HasIdentity keys identity = (at : ℕ) × (facet : List ℕ) × (slice_get keys at ≡ Some (identity, facet))

-- which object has this identity and this facet
abbrev pub IsFound : List Key → Identity → List ℕ → Found → Type 0
IsFound keys identity facet (At at) = slice_get keys at ≡ Some (identity, facet)
IsFound keys identity facet NoObject = HasIdentity keys identity → ⊥
IsFound keys identity facet NoFacet = ((at : ℕ) → slice_get keys at ≡ Some (identity, facet) → ⊥) × HasIdentity keys identity
