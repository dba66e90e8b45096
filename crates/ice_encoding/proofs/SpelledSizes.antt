-- The sizes that bytes spell, alone and in a proxy, can be written; what begins with one is not empty.
use Rattle.std.proofs.Common.{◌≡◌, ℕ, ℤ, zero, suc, ◌<◌, ◌≤◌, ◌^◌, Bool, true, false, ltb, List, [], ◌∷◌, ◌++◌, length, Option, refl, sym, ap, subst, arith, inl, inr}
use Rattle.std.specs.Int.{w32}
use Rattle.std.proofs.lemmas.Bool.{lt-ltb, le-ltb}
use Rattle.std.proofs.lemmas.List.{length-append}
use Rattle.ice_types.specs.declared.identity.Identity.{Identity}
use Rattle.ice_types.specs.declared.proxy.Endpoint.{Endpoint}
use Rattle.ice_types.specs.declared.proxy.Endpoint.TheVariants.{Tcp}
use Rattle.ice_types.specs.declared.proxy.Proxy.{Proxy}
use Rattle.ice_prims.specs.Number.{SpellsBool, SpellsSize, SpellsText}
use Rattle.ice_prims.specs.Bytes.{bool_bytes, signed_bytes, size_bytes, text_bytes}
use Rattle.ice_encoding.specs.Parts.{Each, SpellsTimes}
use Rattle.ice_encoding.specs.Identity.{identity, facet_of}
use Rattle.ice_encoding.specs.Endpoint.{tcp, said_bytes, SpellsSaid, is_tcp, endpoint, EndpointHasSize}
use Rattle.ice_encoding.specs.Proxy.{Location, located_by, named, proxy, HasProxySizes}
use Rattle.ice_encoding.proofs.Joined.{times_length}

pub size_fits : (front : List ℕ) (n : ℕ) → SpellsSize front n → n < 2 ^ 31
size_fits front n (inl h) = omega (arith, h.0)
size_fits front n (inr h) = h.1

pub size_long : (front : List ℕ) (n : ℕ) → SpellsSize front n → 1 ≤ length front
size_long front n (inl h) = rw h.1 (omega arith)
size_long front n (inr h) = rw h.5 (omega arith)

text_fits : (bytes s : List ℕ) → SpellsText bytes s → length s < 2 ^ 31
text_fits bytes s h = size_fits h.0 (length s) h.1

text_long : (bytes s : List ℕ) → SpellsText bytes s → 1 ≤ length bytes
text_long bytes s h = omega (arith, size_long h.0 (length s) h.1, ap length h.3, length-append h.0 s)

-- ---- what is put for an endpoint is as long as what spells it

size_length : (front : List ℕ) (n : ℕ) → SpellsSize front n → length (size_bytes n) ≡ length front
size_length front n (inl h) = let short : ltb n 255 ≡ true = lt-ltb _ _ h.0 in rw (short, h.1) refl
size_length front n (inr h) = let long : ltb n 255 ≡ false = le-ltb _ _ h.0 in rw (long, h.5) (omega (arith, h.3))

text_length : (bytes s : List ℕ) → SpellsText bytes s → length (text_bytes s) ≡ length bytes
text_length bytes s h = omega (arith, size_length h.0 (length s) h.1, ap length h.3, length-append h.0 s, length-append (size_bytes (length s)) s)

bool_length : (bytes : List ℕ) (b : Bool) → SpellsBool bytes b → length (bool_bytes b) ≡ length bytes
bool_length bytes true h = rw h refl
bool_length bytes false h = rw h refl

tcp_length : (bytes : List ℕ) (e : Endpoint) → tcp.Spells bytes e → length (tcp.put e) ≡ length bytes
tcp_length bytes e (x, is, (a, b, ab, host, (c, d, cd, port, (f, g, fg, timeout, compress)))) =
    let last = bool_bytes x.1.1.1 in
    let behind = signed_bytes w32 x.1.1.0 ++ last in
    let all = signed_bytes w32 x.1.0 ++ behind in
    rw is (omega (
      arith,
      text_length a x.0 host,
      bool_length g x.1.1.1 compress,
      port.0,
      timeout.0,
      ap length ab,
      ap length cd,
      ap length fg,
      length-append a b,
      length-append c d,
      length-append f g,
      length-append (text_bytes x.0) all,
      length-append (signed_bytes w32 x.1.0) behind,
      length-append (signed_bytes w32 x.1.1.0) last,
    ))

said_length : (b : Bool) (kind : ℤ) (v : ℕ × ℕ) (bytes : List ℕ) (e : Endpoint) → SpellsSaid b kind v bytes e → length (said_bytes e) ≡ suc (suc (length bytes))
said_length true kind v bytes e h = rw h.1 (ap (λ (n : ℕ). suc (suc n)) (tcp_length bytes (Tcp h.0.0 h.0.1.0 h.0.1.1.0 h.0.1.1.1) (h.0, refl, h.2)))
said_length false kind v bytes e h = rw h refl

endpoint_size : (bytes : List ℕ) (e : Endpoint) → endpoint.Spells bytes e → EndpointHasSize e
endpoint_size bytes e (kind, a, b, ab, of, (claim, inside, parts, size, least, most, (v, said, is, spelled))) =
    omega (arith, said_length (is_tcp kind v) kind v said e spelled, ap length is, ap length parts, length-append claim inside, size.0, most)

-- ---- the sizes of a proxy

first_fits : (n : ℕ) (bytes : List ℕ) (names : List (List ℕ)) → SpellsTimes SpellsText n bytes names → length (facet_of names) < 2 ^ 31
first_fits zero bytes names h = rw h.1 (omega arith)
first_fits (suc n) bytes names h = rw h.4 (text_fits h.2 h.0 h.6)

all_have_sizes : (n : ℕ) (bytes : List ℕ) (es : List Endpoint) → SpellsTimes endpoint.Spells n bytes es → Each EndpointHasSize es
all_have_sizes zero bytes es h = rw h.1 tt
all_have_sizes (suc n) bytes es h = rw h.4 (endpoint_size h.2 h.0 h.6, all_have_sizes n h.3 h.1 h.7)

located_sizes : (n : ℕ) (bytes : List ℕ) (l : Location) → (located_by n).Spells bytes l → (length l.0 ≡ n) × Each EndpointHasSize l.0 × (length l.1 < 2 ^ 31)
located_sizes zero bytes l h = rw h.1 (refl, tt, text_fits bytes h.0 h.2)
located_sizes (suc n) bytes l h = rw h.1 (times_length endpoint.Spells (suc n) bytes h.0 h.2, all_have_sizes (suc n) bytes h.0 h.2, omega arith)

named_sizes : (i : Identity) (name a b : List ℕ) (p : Option Proxy) → identity.Spells a i → (named i name).Spells b p → HasProxySizes p
named_sizes i [] a b p first h = rw h.1 tt
named_sizes i (c ∷ cs) a b p (x, is, (front, back, parts, name, category)) (y, made, within) =
    let l = within.4.4.4.4.4 in
    let located = located_sizes l.0 l.2 y.1.1.1.1.1 l.5 in
    rw made (record {
      name = subst (λ (j : Identity). length j.name < 2 ^ 31) (sym is) (text_fits front x.0 name);
      category = subst (λ (j : Identity). length j.category < 2 ^ 31) (sym is) (text_fits back x.1 category);
      facet = subst (λ (f : List ℕ). length f < 2 ^ 31) (sym within.3.1) (first_fits within.3.2.0 within.3.2.2 within.3.0 within.3.2.5);
      count = omega (arith, located.0, size_fits l.1 l.0 l.4);
      endpoints = located.1;
      adapter = located.2;
    })

pub proxy_sizes : (bytes : List ℕ) (p : Option Proxy) → proxy.Spells bytes p → HasProxySizes p
proxy_sizes bytes p (i, a, b, parts, first, second) = named_sizes i i.name a b p first.0 second

-- it begins with two texts
identity_long : (bytes : List ℕ) (i : Identity) → identity.Spells bytes i → 2 ≤ length bytes
identity_long bytes i (x, is, (a, b, parts, name, category)) = omega (arith, ap length parts, length-append a b, text_long a x.0 name, text_long b x.1 category)

pub proxy_long : (bytes : List ℕ) (p : Option Proxy) → proxy.Spells bytes p → 2 ≤ length bytes
proxy_long bytes p (i, a, b, parts, first, second) = omega (arith, ap length parts, length-append a b, identity_long a i first.0)
