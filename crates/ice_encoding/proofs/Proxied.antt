-- Proxies are read as they are spelled, and what is put spells them; each of their sizes can be written.
use Rattle.std.proofs.Common.{◌≡◌, ℕ, zero, suc, ◌<◌, ◌^◌, true, false, List, [], ◌∷◌, length, Option, None, Some, refl, ap, subst, arith}
use Rattle.ice_types.specs.declared.identity.Identity.{Identity}
use Rattle.ice_types.specs.declared.proxy.Endpoint.{Endpoint}
use Rattle.ice_types.specs.declared.proxy.Proxy.{Proxy}
use Rattle.ice_encoding.specs.Parts.{IsLawful, Each}
use Rattle.ice_encoding.specs.Identity.{identity, no_identity, texts, facet_texts}
use Rattle.ice_encoding.specs.Endpoint.{endpoint, endpoint_to, EndpointHasSize}
use Rattle.ice_encoding.specs.Proxy.{Location, located_to, located_by, location, mode, details, is_whole, named_to, named, identity_of, proxy, proxy_to, ProxySizes, HasProxySizes}
use Rattle.ice_encoding.proofs.Joined.{bool_lawful, byte_lawful, size_lawful, text_lawful, version_lawful, nothing_lawful, both_lawful, made_lawful, tested_lawful, chosen_lawful, times_lawful, times_length}
use Rattle.ice_encoding.proofs.Named.{identity_lawful, facet_lawful}
use Rattle.ice_encoding.proofs.Served.{endpoint_lawful}

-- ---- where it is found

located_lawful : (n : ℕ) → IsLawful (located_by n)
located_lawful zero = made_lawful _ _ _ (λ x. refl) text_lawful
located_lawful (suc n) = made_lawful _ _ _ (λ x. refl) (times_lawful endpoint endpoint_lawful (suc n))

located_tells : (n : ℕ) (bytes : List ℕ) (l : Location) → (located_by n).Spells bytes l → length l.0 ≡ n
located_tells zero bytes l h = rw h.1 refl
located_tells (suc n) bytes l h = rw h.1 (times_length endpoint.Spells (suc n) bytes h.0 h.2)

pub location_lawful : IsLawful location
location_lawful = chosen_lawful _ _ _ size_lawful located_lawful (λ n a b l first second. located_tells n b l second)

-- ---- behind the identity

pub mode_lawful : IsLawful mode
mode_lawful = tested_lawful _ _ _ byte_lawful

pub details_lawful : IsLawful details
details_lawful = both_lawful _ _ facet_lawful (both_lawful _ _ mode_lawful (both_lawful _ _ bool_lawful (both_lawful _ _ version_lawful (both_lawful _ _ version_lawful location_lawful))))

named_lawful : (i : Identity) (name : List ℕ) → IsLawful (named i name)
named_lawful i [] = nothing_lawful None
named_lawful i (c ∷ cs) = made_lawful _ _ _ (λ x. refl) details_lawful

-- ---- a proxy

-- without a name and whole, it is that of the null proxy
none_is : (name category : List ℕ) → name ≡ [] → is_whole (record { name = name; category = category }) ≡ true → no_identity ≡ record { name = name; category = category }
none_is name [] none whole = rw none refl
none_is name (c ∷ cs) none whole = absurd (differ (subst (λ (n : List ℕ). is_whole (record { name = n; category = c ∷ cs }) ≡ true) none whole))
  where
    differ : false ≡ true → ⊥
    differ e = cc

named_tells : (i : Identity) (name bytes : List ℕ) (p : Option Proxy) → i.name ≡ name → is_whole i ≡ true → (named i name).Spells bytes p → identity_of p ≡ i
named_tells i [] bytes p none whole h = rw h.1 (none_is i.name i.category none whole)
named_tells i (c ∷ cs) bytes p none whole h = rw h.1 refl

pub proxy_lawful : IsLawful proxy
proxy_lawful = chosen_lawful _ _ _ (tested_lawful _ _ _ identity_lawful) (λ i. named_lawful i i.name) (λ i a b p first second. named_tells i i.name b p refl first.1 second)

-- ---- its sizes

facet_size : (name : List ℕ) → texts.Is (facet_texts name) → length name < 2 ^ 31
facet_size [] is = omega arith
facet_size (c ∷ cs) is = is.1.1.0.1

module _ (most : ℕ) (few : most < 2 ^ 31) where
  endpoint_sizes : (es : List Endpoint) → Each (endpoint_to most).Is es → Each EndpointHasSize es
  endpoint_sizes [] is = tt
  endpoint_sizes (e ∷ es) is = (omega (arith, few, is.0.1.2), endpoint_sizes es is.1)

  located_sizes : (n : ℕ) (es : List Endpoint) (adapter : List ℕ) → length es ≡ n → (located_to most n).Is (es, adapter) → Each EndpointHasSize es × (length adapter < 2 ^ 31)
  located_sizes zero [] adapter same is = (tt, is.0.1)
  located_sizes zero (e ∷ es) adapter same is = absurd cc
  located_sizes (suc n) es adapter same is =
      let none : length adapter ≡ 0 = ap (λ (l : Location). length l.1) is.1 in
      (endpoint_sizes es is.0.1, omega (arith, none))

  some_sizes : (name : List ℕ) (p : Proxy) → identity.Is p.identity → (named_to most p.identity name).Is (Some p) → ProxySizes p
  some_sizes [] p first second = absurd cc
  some_sizes (c ∷ cs) p first second =
      let within = second.0 in
      let l = within.1.1.1.1.1 in
      let located = located_sizes (length p.endpoints) p.endpoints p.adapter refl l.1 in
      record {
        name = first.0.0.1;
        category = first.0.1.1;
        facet = facet_size p.facet within.0.0;
        count = l.0;
        endpoints = located.0;
        adapter = located.1;
      }

  proxy_sizes_in : (p : Option Proxy) → (proxy_to most).Is p → HasProxySizes p
  proxy_sizes_in None is = tt
  proxy_sizes_in (Some p) is = some_sizes p.identity.name p is.0.0 is.1

pub proxy_sizes : (most : ℕ) (p : Option Proxy) → most < 2 ^ 31 → (proxy_to most).Is p → HasProxySizes p
proxy_sizes most p few is = proxy_sizes_in most few p is
