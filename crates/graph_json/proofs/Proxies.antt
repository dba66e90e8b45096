-- Which proxies have a text: those that there are as bytes. And what a short text spells is one of them.
use Rattle.std.proofs.Common.{◌≡◌, ◌≢◌, ◌<◌, ◌≤◌, ◌^◌, ℕ, ℤ, pos, negsuc, zero, suc, Bool, true, false, ◌&&◌, ◌||◌, not, List, [], ◌∷◌, ◌++◌, length, Some, Ok, refl, sym, ap, subst, inl, inr, ◌⊎◌, arith}
use Rattle.std.specs.Prelude.{nat_eq}
use Rattle.std.specs.Str.{IsUtf8}
use Rattle.std.proofs.lemmas.List.{length-append}
use Rattle.std.proofs.lemmas.Str.{IsUtf8-nil}
use Rattle.std.proofs.lemmas.Bool.{eqb-true, leb-true, le-leb, and_parts}
use Rattle.ice_types.specs.declared.proxy.Endpoint.{Endpoint}
use Rattle.ice_types.specs.declared.proxy.Endpoint.TheVariants.{Tcp, Opaque}
use Rattle.ice_types.specs.declared.proxy.Proxy.{Proxy}
use Rattle.ice_prims.specs.Laws.{IsTextSize}
use Rattle.ice_prims.specs.Bytes.{size_bytes, text_bytes}
use Rattle.ice_encoding.specs.declared.limits.TheConstants.{GREATEST, SMALLEST}
use Rattle.ice_encoding.specs.Bounds.{size_with}
use Rattle.ice_encoding.specs.Parts.{Each, bool, int}
use Rattle.ice_encoding.specs.Identity.{identity, facet}
use Rattle.ice_encoding.specs.Endpoint.{endpoint_to, is_tcp, said, EndpointHasSize}
use Rattle.ice_encoding.specs.Proxy.{Location, located_to, is_empty, named_to, proxy_to, CanBeWritten, ProxySizes}
use Rattle.ice_proxy.specs.Grammar.{proxy_text}
use Rattle.ice_proxy.specs.Printed.{HasText, HasEndpointText, HaveEndpointTexts, printed_proxy}
use Rattle.ice_proxy.proofs.WholeText.{text_read_back}
use Rattle.ice_proxy.proofs.Typed.{whole_text_typed}
use Rattle.ice_proxy.proofs.Sized.{text_sized}

-- ---- a proxy that there is has a text

not_tcp : (kind : ℤ) (major minor : ℕ) → is_tcp kind (major, minor) ≡ false → (kind ≡ pos 1) × (major ≡ 1) × (minor ≡ 1) → ⊥
not_tcp kind major minor test same =
    let is : is_tcp kind (major, minor) ≡ true = rw (same.0, same.1, same.2) refl in
    absurd cc

module _ (most : ℕ) where
  endpoint_text : (e : Endpoint) → (endpoint_to most).Is e → HasEndpointText e
  endpoint_text (Tcp host port timeout compress) is = let parts = is.1.0.1.0 in (parts.0.0, parts.1.0, parts.1.1.0)
  endpoint_text (Opaque kind major minor bytes) is = let parts = is.1.0 in (is.0, (parts.1, parts.2), parts.4, not_tcp kind major minor parts.3)

  endpoint_texts : (es : List Endpoint) → Each (endpoint_to most).Is es → HaveEndpointTexts es
  endpoint_texts [] is = tt
  endpoint_texts (e ∷ es) is = (endpoint_text e is.0, endpoint_texts es is.1)

  -- where it is found
  record Found (l : Location) : Type 0 where
    endpoints : HaveEndpointTexts l.0
    adapter : IsUtf8 l.1
    place : (l.0 ≡ []) ⊎ (l.1 ≡ [])

  found_at : (n : ℕ) (l : Location) → (located_to most n).Is l → Found l
  found_at zero l is = subst Found (sym is.1) (record { endpoints = tt; adapter = is.0.0; place = inl refl })
  found_at (suc n) l is = record {
    endpoints = endpoint_texts l.0 is.0.1;
    adapter = subst IsUtf8 (sym (ap (λ (x : Location). x.1) is.1)) IsUtf8-nil;
    place = inr (ap (λ (x : Location). x.1) is.1);
  }

  facet_text : (f : List ℕ) → facet.Is f → IsUtf8 f
  facet_text [] is = IsUtf8-nil
  facet_text (c ∷ cs) is = is.0.1.1.0.0

  named_text : (name : List ℕ) (p : Proxy) → p.identity.name ≡ name → identity.Is p.identity → (named_to most p.identity name).Is (Some p) → HasText p
  named_text [] p same first second = absurd cc
  named_text (c ∷ cs) p same first second =
      let within = second.0 in
      let versions = within.1.1.1 in
      let place = found_at (length p.endpoints) (p.endpoints, p.adapter) versions.1.1.1 in
      record {
        name = λ e. absurd cc;
        name_text = first.0.0.0;
        category = first.0.1.0;
        facet = facet_text p.facet within.0;
        mode = leb-true p.mode 4 within.1.0.1;
        protocol = versions.0;
        encoding = versions.1.0;
        endpoints = place.endpoints;
        adapter = place.adapter;
        place = place.place;
      }

  has_text_in : (p : Proxy) → (proxy_to most).Is (Some p) → HasText p
  has_text_in p is = named_text p.identity.name p refl is.0.0 is.1

  proxy_again_in : (p : Proxy) → (proxy_to most).Is (Some p) → proxy_text (printed_proxy p) ≡ Ok p
  proxy_again_in p is = text_read_back p (has_text_in p is)

pub has_text : (most : ℕ) (p : Proxy) → (proxy_to most).Is (Some p) → HasText p
has_text most p is = has_text_in most p is

pub proxy_again : (most : ℕ) (p : Proxy) → (proxy_to most).Is (Some p) → proxy_text (printed_proxy p) ≡ Ok p
proxy_again most p is = proxy_again_in most p is

-- ---- what a short text spells

tcp_is : (kind : ℤ) (major minor : ℕ) → is_tcp kind (major, minor) ≡ true → (kind ≡ pos 1) × (major ≡ 1) × (minor ≡ 1)
tcp_is (pos n) major minor e =
    let a = and_parts (nat_eq n 1) (nat_eq major 1 && nat_eq minor 1) e in
    let b = and_parts (nat_eq major 1) (nat_eq minor 1) a.1 in
    (ap pos (eqb-true n 1 a.0), eqb-true major 1 b.0, eqb-true minor 1 b.1)
tcp_is (negsuc n) major minor e = absurd cc

other_than_tcp : (b : Bool) (kind : ℤ) (major minor : ℕ) → is_tcp kind (major, minor) ≡ b → ((kind ≡ pos 1) × (major ≡ 1) × (minor ≡ 1) → ⊥) → is_tcp kind (major, minor) ≡ false
other_than_tcp true kind major minor is other = absurd (other (tcp_is kind major minor is))
other_than_tcp false kind major minor is other = is

endpoint_is : (e : Endpoint) → HasEndpointText e → EndpointHasSize e → (endpoint_to GREATEST).Is e
endpoint_is (Tcp host port timeout compress) has size =
    let all : size_with (said (pos 1)) (Tcp host port timeout compress) ≤ GREATEST = omega (arith, size) in
    let rest = int.put port ++ (int.put timeout ++ bool.put compress) in
    let a = length-append (text_bytes host) rest in
    let b = length-append (size_bytes (length host)) host in
    let short : length host < 2 ^ 31 = omega (arith, size, a, b) in
    let least : SMALLEST ≤ size_with (said (pos 1)) (Tcp host port timeout compress) = omega arith in
    (record { sfits = omega arith }, ((refl, (((has.0, short), (has.1, (has.2, tt))), refl)), least, all))
endpoint_is (Opaque kind major minor bytes) has size =
    let all : size_with (said kind) (Opaque kind major minor bytes) ≤ GREATEST = omega (arith, size) in
    let least : SMALLEST ≤ size_with (said kind) (Opaque kind major minor bytes) = omega arith in
    (has.0, ((refl, has.1.0, has.1.1, other_than_tcp (is_tcp kind (major, minor)) kind major minor refl has.3, has.2), least, all))

endpoints_are : (es : List Endpoint) → HaveEndpointTexts es → Each EndpointHasSize es → Each (endpoint_to GREATEST).Is es
endpoints_are [] has sizes = tt
endpoints_are (e ∷ es) has sizes = (endpoint_is e has.0 sizes.0, endpoints_are es has.1 sizes.1)

found_is : (es : List Endpoint) (adapter : List ℕ) → HaveEndpointTexts es → Each EndpointHasSize es → IsTextSize adapter → (es ≡ []) ⊎ (adapter ≡ []) → (located_to GREATEST (length es)).Is (es, adapter)
found_is [] adapter has sizes text place = (text, refl)
found_is (e ∷ es) adapter has sizes text (inl nothing) = absurd cc
found_is (e ∷ es) adapter has sizes text (inr nothing) = ((refl, endpoints_are (e ∷ es) has sizes), ap (λ (a : List ℕ). (e ∷ es, a)) nothing)

facet_is : (f : List ℕ) → IsTextSize f → facet.Is f
facet_is [] text = (((omega arith, refl), (refl, tt)), refl)
facet_is (c ∷ cs) text = (((omega arith, refl), (refl, (text, tt))), refl)

named_is : (name : List ℕ) (p : Proxy) → p.identity.name ≡ name → HasText p → ProxySizes p → (named_to GREATEST p.identity name).Is (Some p)
named_is [] p same has sizes = absurd (has.name same)
named_is (c ∷ cs) p same has sizes =
    let place = found_is p.endpoints p.adapter has.endpoints sizes.endpoints (has.adapter, sizes.adapter) has.place in
    let small : p.mode < 256 = omega (arith, has.mode) in
    ((facet_is p.facet (has.facet, sizes.facet), ((small, le-leb p.mode 4 has.mode), (tt, (has.protocol, (has.encoding, (sizes.count, place)))))), refl)

or_true : (b : Bool) → (b || true) ≡ true
or_true true = refl
or_true false = refl

whole_name : (name category : List ℕ) → name ≢ [] → (is_empty category || not (is_empty name)) ≡ true
whole_name [] category some = absurd (some refl)
whole_name (c ∷ cs) category some = or_true (is_empty category)

pub proxy_is : (text : List ℕ) (p : Proxy) → length text < 2 ^ 30 → proxy_text text ≡ Ok p → CanBeWritten (Some p)
proxy_is text p short e =
    let has = whole_text_typed text p e in
    let sizes = text_sized text p short e in
    (((((has.name_text, sizes.name), (has.category, sizes.category)), refl), whole_name p.identity.name p.identity.category has.name), named_is p.identity.name p refl has sizes)
