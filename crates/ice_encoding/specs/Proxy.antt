-- A proxy: what names an object on the network, or null. (Ice manual, "Data Encoding for Proxies".)
use Rattle.std.specs.Prelude.{ℕ, zero, suc, ◌<◌, ◌^◌, Bool, true, false, not, ◌||◌, List, [], ◌∷◌, length, Option, None, Some, nat_le}
use Rattle.ice_types.specs.declared.identity.Identity.{Identity}
use Rattle.ice_types.specs.declared.proxy.Endpoint.{Endpoint}
use Rattle.ice_types.specs.declared.proxy.Proxy.{Proxy}
use Rattle.ice_prims.specs.declared.fault.Kind.TheVariants.{BadIdentity, BadMode}
use Rattle.ice_encoding.specs.declared.limits.TheConstants.{GREATEST, LARGEST}
use Rattle.ice_encoding.specs.Parts.{Part, bool, byte, size, text, version, nothing, both, made, tested, chosen, times, Each}
use Rattle.ice_encoding.specs.Identity.{identity, no_identity, facet}
use Rattle.ice_encoding.specs.Endpoint.{endpoint_to, EndpointHasSize}

-- ---- where it is found

-- endpoints, or where there is none the id of an adapter, which may be empty
abbrev pub Location : Type 0
Location = List Endpoint × List ℕ

-- by the number of endpoints, of encapsulations up to this size
abbrev pub located_to : ℕ → ℕ → Part Location
located_to most zero = made (λ adapter. ([], adapter)) (λ l. l.1) text
located_to most (suc n) = made (λ endpoints. (endpoints, [])) (λ l. l.0) (times (endpoint_to most) (suc n))

-- of those that can be read again
abbrev pub located_by : ℕ → Part Location
located_by n = located_to LARGEST n

-- endpoints, or where there is none an adapter
abbrev pub location_to : ℕ → Part Location
location_to most = chosen size (located_to most) (λ l. length l.0)

abbrev pub location : Part Location
location = location_to LARGEST

-- ---- behind the identity

-- twoway, oneway, batch oneway, datagram, batch datagram
abbrev pub mode : Part ℕ
mode = tested (λ m. nat_le m 4) BadMode byte

-- facet, mode, whether it is secure, the versions of protocol and encoding, where it is found
abbrev pub Details : Type 0
Details = List ℕ × (ℕ × (Bool × ((ℕ × ℕ) × ((ℕ × ℕ) × Location))))

-- all that follows the identity
abbrev pub details_to : ℕ → Part Details
details_to most = both facet (both mode (both bool (both version (both version (location_to most)))))

abbrev pub details : Part Details
details = details_to LARGEST

abbrev pub proxy_of : Identity → Details → Option Proxy
proxy_of i x = Some (record {
  identity = i;
  facet = x.0;
  mode = x.1.0;
  secure = x.1.1.0;
  protocol = x.1.1.1.0;
  encoding = x.1.1.1.1.0;
  endpoints = x.1.1.1.1.1.0;
  adapter = x.1.1.1.1.1.1;
})

abbrev pub details_of : Option Proxy → Details
details_of None = ([], (0, (false, ((0, 0), ((0, 0), ([], []))))))
details_of (Some p) = (p.facet, (p.mode, (p.secure, (p.protocol, (p.encoding, (p.endpoints, p.adapter))))))

-- ---- a proxy

abbrev pub is_empty : List ℕ → Bool
is_empty [] = true
is_empty (c ∷ cs) = false

-- where the name is empty, the category is so too
abbrev pub is_whole : Identity → Bool
is_whole i = is_empty i.category || not (is_empty i.name)

-- an identity without a name is that of the null proxy, and nothing follows it
abbrev pub named_to : ℕ → Identity → List ℕ → Part (Option Proxy)
named_to most i [] = nothing None
named_to most i (c ∷ cs) = made (proxy_of i) details_of (details_to most)

abbrev pub identity_of : Option Proxy → Identity
identity_of None = no_identity
identity_of (Some p) = p.identity

abbrev pub named : Identity → List ℕ → Part (Option Proxy)
named i name = named_to LARGEST i name

-- An identity without a name is that of the null proxy, and one with a category alone is `BadIdentity` at its first
-- byte. There are those whose endpoints have encapsulations up to this size.
abbrev pub proxy_to : ℕ → Part (Option Proxy)
proxy_to most = chosen (tested is_whole BadIdentity identity) (λ i. named_to most i i.name) identity_of

-- of those that can be read again
abbrev pub proxy : Part (Option Proxy)
proxy = proxy_to LARGEST

-- which can be written, whether they can be read again or not
abbrev pub CanBeWritten : Option Proxy → Type 0
CanBeWritten p = (proxy_to GREATEST).Is p

-- ---- sizes that can be written

-- each size in a proxy is at most the greatest int
pub record ProxySizes (p : Proxy) : Type 0 where
  pub name : length p.identity.name < 2 ^ 31
  pub category : length p.identity.category < 2 ^ 31
  pub facet : length p.facet < 2 ^ 31
  pub count : length p.endpoints < 2 ^ 31
  pub endpoints : Each EndpointHasSize p.endpoints
  pub adapter : length p.adapter < 2 ^ 31

-- each size in a proxy is at most the greatest int
abbrev pub HasProxySizes : Option Proxy → Type 0
HasProxySizes None = Unit {0}
HasProxySizes (Some p) = ProxySizes p
