-- A proxy that a text spells is no longer than the text: its sizes can be written.
use Rattle.std.proofs.Common.{◌≡◌, ℕ, zero, suc, ◌+◌, ◌<◌, ◌≤◌, ◌^◌, Bool, true, false, cond, ltb, List, [], ◌∷◌, ◌++◌, length, Option, None, Some, Ok, Err, refl, subst, arith, ℤ}
use Rattle.std.specs.Int.{w32, to_le_bytes}
use Rattle.std.proofs.lemmas.List.{length-append}
use Rattle.ice_types.specs.declared.proxy.Endpoint.{Endpoint}
use Rattle.ice_types.specs.declared.proxy.Endpoint.TheVariants.{Tcp, Opaque}
use Rattle.ice_types.specs.declared.proxy.Proxy.{Proxy}
use Rattle.ice_prims.specs.Rest.{Rest, whole}
use Rattle.ice_prims.specs.Bytes.{bool_bytes, signed_bytes, size_bytes, text_bytes}
use Rattle.ice_encoding.specs.Parts.{Each}
use Rattle.ice_encoding.specs.Endpoint.{EndpointHasSize}
use Rattle.ice_encoding.specs.Proxy.{HasProxySizes}
use Rattle.ice_proxy.specs.Escapes.{text_of, identity_of}
use Rattle.ice_proxy.specs.Looking.{Parsed, ◌>>=◌, word_as, at_ahead, colon_at, end_at}
use Rattle.ice_proxy.specs.Options.{no_options, flags, is_given, with_flag, options_at}
use Rattle.ice_proxy.specs.Grammar.{or, endpoint_at, endpoints_from, endpoints_within, endpoints_at, location_from, location_at, proxy_of, proxy_text}
use Rattle.ice_proxy.proofs.Progress.{ok_is, colon_fewer}
use Rattle.ice_proxy.proofs.Shorter.{text_shorter, identity_length, identity_shorter}
use Rattle.ice_proxy.proofs.Measured.{then_ok, at_short, word_keeps, text_size, proxy_options_keep, endpoint_size, endpoint_keeps}

abbrev done : {A : Type 0} → A → Parsed A
done x = Ok x

-- ---- endpoints

-- how many there are, and how many bytes their hosts and contents have
abbrev endpoints_size : List Endpoint → ℕ
endpoints_size [] = 0
endpoints_size (e ∷ es) = suc (endpoint_size e) + endpoints_size es

abbrev Within : ℕ → Type 0
Within steps = (r : Rest) (es : List Endpoint) → endpoints_within steps r ≡ Ok es → endpoints_size es ≤ length r.bytes

endpoints_short : (steps : ℕ) → Within steps
endpoints_short zero r es e = absurd cc
endpoints_short (suc steps) r es e = by (colon_at r) refl (endpoints_short steps) e
  where
    by : (found : Parsed (Option Rest)) → colon_at r ≡ found → Within steps → (found >>= endpoints_from (endpoints_within steps)) ≡ Ok es → endpoints_size es ≤ length r.bytes
    by (Ok None) is more e = subst (λ (x : List Endpoint). endpoints_size x ≤ length r.bytes) (ok_is [] es e) (omega arith)
    by (Ok (Some s)) is more e = then_ok (endpoint_at s) (λ x. endpoints_within steps x.1 >>= λ others. done (x.0 ∷ others)) es e
        (λ x x_is rest. then_ok (endpoints_within steps x.1) (λ others. done (x.0 ∷ others)) es rest
        (λ others others_are last.
        let a = colon_fewer r s is in
        let b = endpoint_keeps.fits s x.1 x.0 x_is in
        let d = more x.1 others others_are in
        subst (λ (y : List Endpoint). endpoints_size y ≤ length r.bytes) (ok_is (x.0 ∷ others) es last) (omega (arith, a, b, d))))
    by (Err place) is more e = absurd cc

-- ---- where it is found

abbrev location_size : List Endpoint × List ℕ → ℕ
location_size l = endpoints_size l.0 + length l.1

location_short : (r : Rest) (l : List Endpoint × List ℕ) → location_at r ≡ Ok l → location_size l ≤ length r.bytes
location_short r l e = by (at_ahead r) refl e
  where
    by : (found : Option Rest) → at_ahead r ≡ found → location_from r found ≡ Ok l → location_size l ≤ length r.bytes
    by None is e = then_ok (endpoints_at r) (λ es. done (es, [])) l e
        (λ es es_are last.
        let a = endpoints_short (suc (length r.bytes)) r es es_are in
        subst (λ (x : List Endpoint × List ℕ). location_size x ≤ length r.bytes) (ok_is (es, []) l last) (omega (arith, a)))
    by (Some s) is e = then_ok (word_as text_of s) (λ adapter. end_at adapter.1 >>= λ x. done ([], adapter.0)) l e
        (λ adapter adapter_is rest. then_ok (end_at adapter.1) (λ x. done ([], adapter.0)) l rest
        (λ x x_is last.
        let a = at_short r s is in
        let b = (word_keeps 0 text_of length (λ bytes t h. let short = text_shorter bytes t h in omega (arith, short))).fits s adapter.1 adapter.0 adapter_is in
        subst (λ (y : List Endpoint × List ℕ). location_size y ≤ length r.bytes) (ok_is ([], adapter.0) l last) (omega (arith, a, b))))

-- ---- a proxy

-- how many bytes its texts have, with its endpoints
abbrev proxy_size : Proxy → ℕ
proxy_size p = identity_length p.identity + (length p.facet + (endpoints_size p.endpoints + length p.adapter))

or_size : (s : Option (List ℕ)) → length (or s []) ≤ text_size s
or_size None = omega arith
or_size (Some s) = omega arith

proxy_short : (text : List ℕ) (p : Proxy) → proxy_text text ≡ Ok p → proxy_size p ≤ length text
proxy_short text p e = then_ok (word_as identity_of (whole text)) (λ i. options_at flags is_given with_flag no_options i.1 >>= λ o. location_at o.1 >>= λ l. done (proxy_of i.0 o.0 l)) p e
    (λ i i_is a. then_ok (options_at flags is_given with_flag no_options i.1) (λ o. location_at o.1 >>= λ l. done (proxy_of i.0 o.0 l)) p a
    (λ o o_is b. then_ok (location_at o.1) (λ l. done (proxy_of i.0 o.0 l)) p b
    (λ l l_is last.
    let first = (word_keeps 0 identity_of identity_length (λ bytes x h. let short = identity_shorter bytes x h in omega (arith, short))).fits (whole text) i.1 i.0 i_is in
    let second = (proxy_options_keep no_options).fits i.1 o.1 o.0 o_is in
    let third = location_short o.1 l l_is in
    subst (λ (q : Proxy). proxy_size q ≤ length text) (ok_is (proxy_of i.0 o.0 l) p last) (omega (arith, first, second, third, or_size o.0.facet)))))

-- ---- sizes that can be written

size_length : (n : ℕ) → length (size_bytes n) ≤ 5
size_length n = by (ltb n 255)
  where
    by : (b : Bool) → length (cond b (n ∷ []) (255 ∷ to_le_bytes w32 n)) ≤ 5
    by true = omega arith
    by false = omega arith

signed_length : (z : ℤ) → length (signed_bytes w32 z) ≤ 4
signed_length z = omega arith

bool_length : (b : Bool) → length (bool_bytes b) ≤ 1
bool_length false = omega arith
bool_length true = omega arith

text_length : (s : List ℕ) → length (text_bytes s) ≤ 5 + length s
text_length s = omega (arith, length-append (size_bytes (length s)) s, size_length (length s))

endpoint_sized : (e : Endpoint) → endpoint_size e < 2 ^ 30 → EndpointHasSize e
endpoint_sized (Tcp host port timeout compress) lt =
    let numbers = signed_bytes w32 port ++ (signed_bytes w32 timeout ++ bool_bytes compress) in
    omega (arith, lt, length-append (text_bytes host) numbers, text_length host, length-append (signed_bytes w32 port) (signed_bytes w32 timeout ++ bool_bytes compress), signed_length port, length-append (signed_bytes w32 timeout) (bool_bytes compress), signed_length timeout, bool_length compress)
endpoint_sized (Opaque kind major minor bytes) lt = omega (arith, lt)

each_sized : (es : List Endpoint) → endpoints_size es < 2 ^ 30 → Each EndpointHasSize es
each_sized [] lt = tt
each_sized (e ∷ es) lt = (endpoint_sized e (omega (arith, lt)), each_sized es (omega (arith, lt)))

count_short : (es : List Endpoint) → length es ≤ endpoints_size es
count_short [] = omega arith
count_short (e ∷ es) = let others = count_short es in omega (arith, others)

pub text_sized : (text : List ℕ) (p : Proxy) → length text < 2 ^ 30 → proxy_text text ≡ Ok p → HasProxySizes (Some p)
text_sized text p lt e =
    let short = proxy_short text p e in
    record {
      name = omega (arith, lt, short);
      category = omega (arith, lt, short);
      facet = omega (arith, lt, short);
      count = omega (arith, lt, short, count_short p.endpoints);
      endpoints = each_sized p.endpoints (omega (arith, lt, short));
      adapter = omega (arith, lt, short);
    }
