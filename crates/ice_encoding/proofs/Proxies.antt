-- The order of proxies is a total one, and tells them apart.
use Rattle.std.proofs.Common.{◌≡◌, ℕ, ℤ, Bool, true, false, List, [], ◌∷◌, Option, Some, None, refl, ap}
use Rattle.std.specs.Ordering.{ordering_then, ordering_reverse, nat_cmp, int_cmp, bool_cmp}
use Rattle.std.specs.Cmp.{IsTotalOrder, on_total, bool_cmp_total}
use Rattle.std.specs.Cmp.Lexicographic.{slice_cmp, on_texts, lists_total}
use Rattle.std.specs.declared.cmp.Ordering.{Ordering}
use Rattle.std.specs.declared.cmp.Ordering.TheVariants.{Less, Equal, Greater}
use Rattle.std.proofs.lemmas.Cmp.{nat_cmp_total, int_cmp_total, then_total}
use Rattle.std.proofs.lemmas.Map.Lookups.{CmpEqualImpliesEq, exact_unsigned, exact_signed, exact_bytes}
use Rattle.ice_types.specs.declared.proxy.Proxy.{Proxy}
use Rattle.ice_types.specs.declared.proxy.Endpoint.{Endpoint}
use Rattle.ice_types.specs.declared.proxy.Endpoint.TheVariants.{Tcp, Opaque}
use Rattle.ice_encoding.specs.Proxies.{identity_cmp, version_cmp, endpoint_cmp, calling_cmp, serving_cmp, proxy_cmp, some_proxy_cmp}

-- ---- a total order

identities_total : IsTotalOrder identity_cmp
identities_total = then_total (on_texts (λ i. i.name)) (on_texts (λ i. i.category))

versions_total : IsTotalOrder version_cmp
versions_total = then_total (on_total (λ v. v.0) nat_cmp_total) (on_total (λ v. v.1) nat_cmp_total)

-- the parts of an endpoint of TCP, and those of another
abbrev Plain : Type 0
Plain = List ℕ × ℤ × ℤ × Bool

abbrev Other : Type 0
Other = ℤ × ℕ × ℕ × List ℕ

abbrev plain_cmp : Plain → Plain → Ordering
plain_cmp a b = endpoint_cmp (Tcp a.0 a.1 a.2 a.3) (Tcp b.0 b.1 b.2 b.3)

abbrev other_cmp : Other → Other → Ordering
other_cmp a b = endpoint_cmp (Opaque a.0 a.1 a.2 a.3) (Opaque b.0 b.1 b.2 b.3)

plain_total : IsTotalOrder plain_cmp
plain_total = then_total (on_texts (λ e. e.0)) (then_total (on_total (λ e. e.1) int_cmp_total) (then_total (on_total (λ e. e.2) int_cmp_total) (on_total (λ e. e.3) bool_cmp_total)))

other_total : IsTotalOrder other_cmp
other_total = then_total (on_total (λ e. e.0) int_cmp_total) (then_total (on_total (λ e. e.1) nat_cmp_total) (then_total (on_total (λ e. e.2) nat_cmp_total) (on_texts (λ e. e.3))))

endpoints_total : IsTotalOrder endpoint_cmp
endpoints_total = record { antisymm = turn; trans = less; congr = alike }
  where
    turn : (a b : Endpoint) → endpoint_cmp a b ≡ ordering_reverse (endpoint_cmp b a)
    turn (Tcp a b c d) (Tcp e f g h) = plain_total.antisymm (a, b, c, d) (e, f, g, h)
    turn (Tcp a b c d) (Opaque e f g h) = refl
    turn (Opaque a b c d) (Tcp e f g h) = refl
    turn (Opaque a b c d) (Opaque e f g h) = other_total.antisymm (a, b, c, d) (e, f, g, h)

    less : (a b c : Endpoint) → endpoint_cmp a b ≡ Less → endpoint_cmp b c ≡ Less → endpoint_cmp a c ≡ Less
    less (Tcp a b c d) (Tcp e f g h) (Tcp i j k l) p q = plain_total.trans (a, b, c, d) (e, f, g, h) (i, j, k, l) p q
    less (Tcp a b c d) y (Opaque i j k l) p q = refl
    less (Tcp a b c d) (Opaque e f g h) (Tcp i j k l) p q = absurd cc
    less (Opaque a b c d) (Tcp e f g h) z p q = absurd cc
    less (Opaque a b c d) (Opaque e f g h) (Tcp i j k l) p q = absurd cc
    less (Opaque a b c d) (Opaque e f g h) (Opaque i j k l) p q = other_total.trans (a, b, c, d) (e, f, g, h) (i, j, k, l) p q

    alike : (a b c : Endpoint) → endpoint_cmp a b ≡ Equal → endpoint_cmp a c ≡ endpoint_cmp b c
    alike (Tcp a b c d) (Tcp e f g h) (Tcp i j k l) p = plain_total.congr (a, b, c, d) (e, f, g, h) (i, j, k, l) p
    alike (Tcp a b c d) (Tcp e f g h) (Opaque i j k l) p = refl
    alike (Tcp a b c d) (Opaque e f g h) z p = absurd cc
    alike (Opaque a b c d) (Tcp e f g h) z p = absurd cc
    alike (Opaque a b c d) (Opaque e f g h) (Tcp i j k l) p = refl
    alike (Opaque a b c d) (Opaque e f g h) (Opaque i j k l) p = other_total.congr (a, b, c, d) (e, f, g, h) (i, j, k, l) p

calling_total : IsTotalOrder calling_cmp
calling_total = then_total (on_total (λ p. p.mode) nat_cmp_total) (then_total (on_total (λ p. p.secure) bool_cmp_total) (then_total (on_total (λ p. p.protocol) versions_total) (on_total (λ p. p.encoding) versions_total)))

serving_total : IsTotalOrder serving_cmp
serving_total = then_total (on_total (λ p. p.endpoints) (lists_total endpoints_total)) (on_texts (λ p. p.adapter))

proxies_total : IsTotalOrder proxy_cmp
proxies_total = then_total (on_total (λ p. p.identity) identities_total) (then_total (on_texts (λ p. p.facet)) (then_total calling_total serving_total))

pub some_proxies_turn : (a b : Option Proxy) → some_proxy_cmp a b ≡ ordering_reverse (some_proxy_cmp b a)
some_proxies_turn None None = refl
some_proxies_turn None (Some b) = refl
some_proxies_turn (Some a) None = refl
some_proxies_turn (Some a) (Some b) = proxies_total.antisymm a b

pub some_proxies_less : (a b c : Option Proxy) → some_proxy_cmp a b ≡ Less → some_proxy_cmp b c ≡ Less → some_proxy_cmp a c ≡ Less
some_proxies_less a None None p q = absurd cc
some_proxies_less None None (Some c) p q = refl
some_proxies_less (Some a) None (Some c) p q = absurd cc
some_proxies_less a (Some b) None p q = absurd cc
some_proxies_less None (Some b) (Some c) p q = refl
some_proxies_less (Some a) (Some b) (Some c) p q = proxies_total.trans a b c p q

-- ---- that tells them apart

pub then_equal : (a b : Ordering) → ordering_then a b ≡ Equal → (a ≡ Equal) × (b ≡ Equal)
then_equal Less b e = absurd cc
then_equal Equal b e = (refl, e)
then_equal Greater b e = absurd cc

pub bools_equal : (a b : Bool) → bool_cmp a b ≡ Equal → a ≡ b
bools_equal true true e = refl
bools_equal true false e = absurd cc
bools_equal false true e = absurd cc
bools_equal false false e = refl

identities_equal : CmpEqualImpliesEq identity_cmp
identities_equal a b e =
    let h = then_equal (slice_cmp nat_cmp a.name b.name) (slice_cmp nat_cmp a.category b.category) e in
    let name = exact_bytes a.name b.name h.0 in
    let category = exact_bytes a.category b.category h.1 in
    λ i. record { name = name i; category = category i }

versions_equal : CmpEqualImpliesEq version_cmp
versions_equal a b e =
    let h = then_equal (nat_cmp a.0 b.0) (nat_cmp a.1 b.1) e in
    let major = exact_unsigned a.0 b.0 h.0 in
    let minor = exact_unsigned a.1 b.1 h.1 in
    λ i. (major i, minor i)

endpoints_equal : CmpEqualImpliesEq endpoint_cmp
endpoints_equal (Tcp a b c d) (Tcp e f g h) is =
    let p = then_equal (slice_cmp nat_cmp a e) (ordering_then (int_cmp b f) (ordering_then (int_cmp c g) (bool_cmp d h))) is in
    let q = then_equal (int_cmp b f) (ordering_then (int_cmp c g) (bool_cmp d h)) p.1 in
    let r = then_equal (int_cmp c g) (bool_cmp d h) q.1 in
    rw (exact_bytes a e p.0, exact_signed b f q.0, exact_signed c g r.0, bools_equal d h r.1) refl
endpoints_equal (Tcp a b c d) (Opaque e f g h) is = absurd cc
endpoints_equal (Opaque a b c d) (Tcp e f g h) is = absurd cc
endpoints_equal (Opaque a b c d) (Opaque e f g h) is =
    let p = then_equal (int_cmp a e) (ordering_then (nat_cmp b f) (ordering_then (nat_cmp c g) (slice_cmp nat_cmp d h))) is in
    let q = then_equal (nat_cmp b f) (ordering_then (nat_cmp c g) (slice_cmp nat_cmp d h)) p.1 in
    let r = then_equal (nat_cmp c g) (slice_cmp nat_cmp d h) q.1 in
    rw (exact_signed a e p.0, exact_unsigned b f q.0, exact_unsigned c g r.0, exact_bytes d h r.1) refl

lists_equal : {A : Type 0} (R : A → A → Ordering) → CmpEqualImpliesEq R → CmpEqualImpliesEq (slice_cmp R)
lists_equal R exact [] [] e = refl
lists_equal R exact [] (y ∷ ys) e = absurd cc
lists_equal R exact (x ∷ xs) [] e = absurd cc
lists_equal R exact (x ∷ xs) (y ∷ ys) e =
    let h = then_equal (R x y) (slice_cmp R xs ys) e in
    rw (exact x y h.0, lists_equal R exact xs ys h.1) refl

proxies_equal : CmpEqualImpliesEq proxy_cmp
proxies_equal a b e =
    let p = then_equal (identity_cmp a.identity b.identity) (ordering_then (slice_cmp nat_cmp a.facet b.facet) (ordering_then (calling_cmp a b) (serving_cmp a b))) e in
    let q = then_equal (slice_cmp nat_cmp a.facet b.facet) (ordering_then (calling_cmp a b) (serving_cmp a b)) p.1 in
    let r = then_equal (calling_cmp a b) (serving_cmp a b) q.1 in
    let mode = then_equal (nat_cmp a.mode b.mode) (ordering_then (bool_cmp a.secure b.secure) (ordering_then (version_cmp a.protocol b.protocol) (version_cmp a.encoding b.encoding))) r.0 in
    let secure = then_equal (bool_cmp a.secure b.secure) (ordering_then (version_cmp a.protocol b.protocol) (version_cmp a.encoding b.encoding)) mode.1 in
    let versions = then_equal (version_cmp a.protocol b.protocol) (version_cmp a.encoding b.encoding) secure.1 in
    let served = then_equal (slice_cmp endpoint_cmp a.endpoints b.endpoints) (slice_cmp nat_cmp a.adapter b.adapter) r.1 in
    let is_identity = identities_equal a.identity b.identity p.0 in
    let is_facet = exact_bytes a.facet b.facet q.0 in
    let is_mode = exact_unsigned a.mode b.mode mode.0 in
    let is_secure = bools_equal a.secure b.secure secure.0 in
    let is_protocol = versions_equal a.protocol b.protocol versions.0 in
    let is_encoding = versions_equal a.encoding b.encoding versions.1 in
    let are_endpoints = lists_equal endpoint_cmp endpoints_equal a.endpoints b.endpoints served.0 in
    let is_adapter = exact_bytes a.adapter b.adapter served.1 in
    λ i. record {
      identity = is_identity i;
      facet = is_facet i;
      mode = is_mode i;
      secure = is_secure i;
      protocol = is_protocol i;
      encoding = is_encoding i;
      endpoints = are_endpoints i;
      adapter = is_adapter i;
    }

pub some_proxies_equal : CmpEqualImpliesEq some_proxy_cmp
some_proxies_equal None None e = refl
some_proxies_equal None (Some b) e = absurd cc
some_proxies_equal (Some a) None e = absurd cc
some_proxies_equal (Some a) (Some b) e = ap Some (proxies_equal a b e)
