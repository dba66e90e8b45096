-- A proxy whose endpoints are of sizes up to one limit is one up to another, where that is not less or what is written is within it.
use Rattle.std.proofs.Common.{ℕ, zero, suc, ◌≤◌, ◌⊎◌, inl, inr, List, [], ◌∷◌, ◌++◌, length, Option, arith}
use Rattle.std.specs.List.{flat_map}
use Rattle.std.proofs.lemmas.List.{length-append}
use Rattle.ice_types.specs.declared.identity.Identity.{Identity}
use Rattle.ice_types.specs.declared.proxy.Endpoint.{Endpoint}
use Rattle.ice_types.specs.declared.proxy.Proxy.{Proxy}
use Rattle.ice_prims.specs.Bytes.{bool_bytes, byte_bytes, size_bytes}
use Rattle.ice_encoding.specs.declared.limits.TheConstants.{LARGEST}
use Rattle.ice_encoding.specs.Bounds.{size_with}
use Rattle.ice_encoding.specs.Parts.{Each, version}
use Rattle.ice_encoding.specs.Identity.{identity, facet}
use Rattle.ice_encoding.specs.Endpoint.{endpoint_to, kind_of, said}
use Rattle.ice_encoding.specs.Proxy.{Location, Details, located_to, location_to, details_to, details_of, named_to, identity_of, proxy, proxy_to, CanBeWritten}

module _ (most other : ℕ) where
  -- of so many bytes, or of any; what is put for an endpoint is the same for all limits
  abbrev IsSmall : ℕ → Type 0
  IsSmall count = (most ≤ other) ⊎ (count ≤ other)

  small_front : (a b : List ℕ) → IsSmall (length (a ++ b)) → IsSmall (length a)
  small_front a b (inl le) = inl le
  small_front a b (inr le) = inr (omega (arith, le, length-append a b))

  small_behind : (a b : List ℕ) → IsSmall (length (a ++ b)) → IsSmall (length b)
  small_behind a b (inl le) = inl le
  small_behind a b (inr le) = inr (omega (arith, le, length-append a b))

  -- ---- endpoints

  endpoint_long : (e : Endpoint) → size_with (said (kind_of e)) e ≤ length ((endpoint_to LARGEST).put e)
  endpoint_long e = omega arith

  size_within : (e : Endpoint) → size_with (said (kind_of e)) e ≤ most → IsSmall (length ((endpoint_to LARGEST).put e)) → size_with (said (kind_of e)) e ≤ other
  size_within e le (inl less) = omega (arith, le, less)
  size_within e le (inr small) = omega (arith, small, endpoint_long e)

  endpoint_within : (e : Endpoint) → (endpoint_to most).Is e → IsSmall (length ((endpoint_to LARGEST).put e)) → (endpoint_to other).Is e
  endpoint_within e is small = (is.0, (is.1.0, is.1.1, size_within e is.1.2 small))

  each_within : (es : List Endpoint) → Each (endpoint_to most).Is es → IsSmall (length (flat_map (endpoint_to LARGEST).put es)) → Each (endpoint_to other).Is es
  each_within [] is small = tt
  each_within (e ∷ es) is small =
      let first = (endpoint_to LARGEST).put e in
      let others = flat_map (endpoint_to LARGEST).put es in
      (endpoint_within e is.0 (small_front first others small), each_within es is.1 (small_behind first others small))

  located_within : (n : ℕ) (l : Location) → (located_to most n).Is l → IsSmall (length ((located_to LARGEST n).put l)) → (located_to other n).Is l
  located_within zero l is small = is
  located_within (suc n) l is small = ((is.0.0, each_within l.0 is.0.1 small), is.1)

  location_within : (l : Location) → (location_to most).Is l → IsSmall (length ((location_to LARGEST).put l)) → (location_to other).Is l
  location_within l is small = (is.0, located_within (length l.0) l is.1 (small_behind (size_bytes (length l.0)) ((located_to LARGEST (length l.0)).put l) small))

  -- ---- a proxy

  details_within : (x : Details) → (details_to most).Is x → IsSmall (length ((details_to LARGEST).put x)) → (details_to other).Is x
  details_within x is small =
      let at_location = (location_to LARGEST).put x.1.1.1.1.1 in
      let at_encoding = version.put x.1.1.1.1.0 ++ at_location in
      let at_protocol = version.put x.1.1.1.0 ++ at_encoding in
      let at_secure = bool_bytes x.1.1.0 ++ at_protocol in
      let at_mode = byte_bytes x.1.0 ++ at_secure in
      let mode = small_behind (facet.put x.0) at_mode small in
      let secure = small_behind (byte_bytes x.1.0) at_secure mode in
      let protocol = small_behind (bool_bytes x.1.1.0) at_protocol secure in
      let encoding = small_behind (version.put x.1.1.1.0) at_encoding protocol in
      let located = small_behind (version.put x.1.1.1.1.0) at_location encoding in
      (is.0, (is.1.0, (is.1.1.0, (is.1.1.1.0, (is.1.1.1.1.0, location_within x.1.1.1.1.1 is.1.1.1.1.1 located)))))

  named_within : (i : Identity) (name : List ℕ) (p : Option Proxy) → (named_to most i name).Is p → IsSmall (length ((named_to LARGEST i name).put p)) → (named_to other i name).Is p
  named_within i [] p is small = is
  named_within i (c ∷ cs) p is small = (details_within (details_of p) is.0 small, is.1)

  pub proxy_small : (p : Option Proxy) → (proxy_to most).Is p → IsSmall (length (proxy.put p)) → (proxy_to other).Is p
  proxy_small p is small =
      let i = identity_of p in
      (is.0, named_within i i.name p is.1 (small_behind (identity.put i) ((named_to LARGEST i i.name).put p) small))

pub proxy_grown : (most other : ℕ) → most ≤ other → (p : Option Proxy) → (proxy_to most).Is p → (proxy_to other).Is p
proxy_grown most other le p is = proxy_small most other p is (inl le)

pub proxy_within : (p : Option Proxy) → CanBeWritten p → length (proxy.put p) ≤ LARGEST → proxy.Is p
proxy_within p is small = proxy_small 2147483647 1048576 p is (inr small)

pub can_be_written : (p : Option Proxy) → proxy.Is p → CanBeWritten p
can_be_written p is = proxy_grown 1048576 2147483647 (omega arith) p is
