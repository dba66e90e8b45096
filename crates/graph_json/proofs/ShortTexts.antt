-- The text of a proxy is at most five times as long as the bytes that spell it, and a little more.
use Rattle.std.proofs.Common.{◌≡◌, ◌<◌, ◌≤◌, ◌+◌, ◌*◌, ℕ, ℤ, pos, negsuc, zero, suc, Bool, true, false, List, [], ◌∷◌, ◌++◌, length, Option, Some, None, ap, inl, inr, ◌⊎◌, arith}
use Rattle.std.specs.Prelude.{◌==◌, ◌||◌, ◌&&◌, nat_lt, if◌then◌else◌, codes, FitsSigned}
use Rattle.std.specs.Int.{w16, w32}
use Rattle.std.specs.Fmt.{decimal, signed_decimal}
use Rattle.std.specs.List.{flat_map}
use Rattle.std.proofs.lemmas.Fmt.{length-decimal-le, length_signed_le}
use Rattle.std.proofs.lemmas.List.{length-append}
use Rattle.hex.specs.Hex.{lower_digits}
use Rattle.hex.proofs.HexLemmas.{length-encode_with}
use Rattle.ice_types.specs.declared.identity.Identity.{Identity}
use Rattle.ice_types.specs.declared.proxy.Endpoint.{Endpoint}
use Rattle.ice_types.specs.declared.proxy.Endpoint.TheVariants.{Tcp, Opaque}
use Rattle.ice_types.specs.declared.proxy.Proxy.{Proxy}
use Rattle.ice_prims.specs.Rest.{IsBytes}
use Rattle.ice_prims.specs.Bytes.{size_bytes, text_bytes}
use Rattle.ice_encoding.specs.declared.limits.TheConstants.{LARGEST}
use Rattle.ice_encoding.specs.Parts.{int, bool}
use Rattle.ice_encoding.specs.Identity.{facet}
use Rattle.ice_encoding.specs.Endpoint.{endpoint}
use Rattle.ice_encoding.specs.Proxy.{location, named, proxy}
use Rattle.ice_encoding.proofs.Proxied.{proxy_lawful}
use Rattle.ice_proxy.specs.PrintedWords.{short, octal_escape, escape_of, escape_in_identity, wants_quotes, in_quotes, printed_text, whole_name, identity_escapes, printed_identity}
use Rattle.ice_proxy.specs.Numbers.{printed_timeout, printed_version, printed_bytes}
use Rattle.ice_proxy.specs.Printed.{unless_empty, when, printed_mode, printed_protocol, printed_tcp, printed_opaque, printed_endpoint, printed_endpoints, printed_options, printed_proxy, IsVersion, HasEndpointText, HaveEndpointTexts, HasText}
use Rattle.graph_json.specs.TypedValues.{HasShortText}
use Rattle.graph_json.proofs.Proxies.{has_text}

-- ---- escapes: four bytes for one

escape_by : (c : ℕ) (a b d e f : Bool) → length (if a then short c else (if b then short 110 else (if d then short 114 else (if e then short 116 else (if f then octal_escape c else c ∷ []))))) ≤ 4
escape_by c true b d e f = omega arith
escape_by c false true d e f = omega arith
escape_by c false false true e f = omega arith
escape_by c false false false true f = omega arith
escape_by c false false false false true = omega arith
escape_by c false false false false false = omega arith

escape_few : (c : ℕ) → length (escape_of c) ≤ 4
escape_few c = escape_by c (c == 92 || (c == 34 || c == 39)) (c == 10) (c == 13) (c == 9) (nat_lt c 32 || c == 127)

slash_by : (c : ℕ) (b : Bool) → length (escape_of c) ≤ 4 → length (if b then short 47 else escape_of c) ≤ 4
slash_by c true h = omega arith
slash_by c false h = h

in_identity_few : (c : ℕ) → length (escape_in_identity c) ≤ 4
in_identity_few c = slash_by c (c == 47) (escape_few c)

each_few : (escape : ℕ → List ℕ) → ((c : ℕ) → length (escape c) ≤ 4) → (text : List ℕ) → length (flat_map escape text) ≤ 4 * length text
each_few escape few [] = omega arith
each_few escape few (c ∷ cs) = omega (arith, few c, each_few escape few cs, length-append (escape c) (flat_map escape cs))

quoted_by : (bytes : List ℕ) (b : Bool) → length (if b then in_quotes bytes else bytes) ≤ 2 + length bytes
quoted_by bytes true = omega (arith, length-append bytes (34 ∷ []))
quoted_by bytes false = omega arith

text_few : (text : List ℕ) → length (printed_text text) ≤ 2 + 4 * length text
text_few text = omega (arith, quoted_by (flat_map escape_of text) (wants_quotes text), each_few escape_of escape_few text)

escapes_few : (name category : List ℕ) → length (identity_escapes (record { name = name; category = category })) ≤ 1 + 4 * (length name + length category)
escapes_few name [] = omega (arith, each_few escape_in_identity in_identity_few name)
escapes_few name (c ∷ cs) = omega (
  arith,
  each_few escape_in_identity in_identity_few name,
  each_few escape_in_identity in_identity_few (c ∷ cs),
  length-append (flat_map escape_in_identity (c ∷ cs)) (47 ∷ flat_map escape_in_identity name),
)

identity_few : (i : Identity) → length (printed_identity i) ≤ 3 + 4 * (length i.name + length i.category)
identity_few i = omega (arith, quoted_by (identity_escapes i) (wants_quotes (whole_name i)), escapes_few i.name i.category)

unless_few : (option text : List ℕ) → length (unless_empty option text) ≤ length option + (2 + 4 * length text)
unless_few option [] = omega arith
unless_few option (c ∷ cs) = omega (arith, text_few (c ∷ cs), length-append option (printed_text (c ∷ cs)))

-- ---- numbers

byte_few : (n : ℕ) → n < 256 → length (decimal n) ≤ 3
byte_few n lt = length-decimal-le 3 n (omega arith) (omega (arith, lt)) (omega (arith, lt))

version_few : (v : ℕ × ℕ) → IsVersion v → length (printed_version v) ≤ 7
version_few v h = omega (arith, byte_few v.0 h.0, byte_few v.1 h.1, length-append (decimal v.0) (46 ∷ decimal v.1))

int_few : (z : ℤ) → FitsSigned w32 z → length (signed_decimal z) ≤ 11
int_few (pos n) h = length_signed_le 10 (pos n) (omega (arith, h.sfits)) (omega (arith, h.sfits))
int_few (negsuc n) h = length_signed_le 10 (negsuc n) (omega (arith, h.sfits)) (omega (arith, h.sfits))

short_few : (z : ℤ) → FitsSigned w16 z → length (signed_decimal z) ≤ 11
short_few (pos n) h = length_signed_le 10 (pos n) (omega (arith, h.sfits)) (omega (arith, h.sfits))
short_few (negsuc n) h = length_signed_le 10 (negsuc n) (omega (arith, h.sfits)) (omega (arith, h.sfits))

timeout_few : (z : ℤ) → FitsSigned w32 z → length (printed_timeout z) ≤ 11
timeout_few (pos n) h = length-decimal-le 11 n (omega arith) (omega (arith, h.sfits)) (omega (arith, h.sfits))
timeout_few (negsuc zero) h = omega arith
timeout_few (negsuc (suc n)) h = int_few (negsuc (suc n)) h

bytes_few : (bytes : List ℕ) → length (printed_bytes bytes) ≤ 2 + 2 * length bytes
bytes_few [] = omega arith
bytes_few (c ∷ cs) = omega (arith, length-encode_with lower_digits (c ∷ cs))

when_few : (b : Bool) (option : List ℕ) → length (when b option) ≤ length option
when_few true option = omega arith
when_few false option = omega arith

mode_few : (n : ℕ) → length (printed_mode n) ≤ 3
mode_few zero = omega arith
mode_few (suc zero) = omega arith
mode_few (suc (suc zero)) = omega arith
mode_few (suc (suc (suc zero))) = omega arith
mode_few (suc (suc (suc (suc n)))) = omega arith

protocol_by : (v : ℕ × ℕ) (b : Bool) → IsVersion v → length (if b then [] else codes " -p " ++ printed_version v) ≤ 11
protocol_by v true h = omega arith
protocol_by v false h = omega (arith, version_few v h, length-append (codes " -p ") (printed_version v))

-- ---- endpoints

tcp_few : (host : List ℕ) (port timeout : ℤ) (compress : Bool) → FitsSigned w32 port → FitsSigned w32 timeout → length (printed_tcp host port timeout compress) ≤ 40 + 4 * length host
tcp_few host port timeout compress p t =
    let z = when compress (codes " -z") in
    let last = printed_timeout timeout ++ z in
    let behind = signed_decimal port ++ (codes " -t " ++ last) in
    omega (
      arith,
      unless_few (codes " -h ") host,
      int_few port p,
      timeout_few timeout t,
      when_few compress (codes " -z"),
      length-append (unless_empty (codes " -h ") host) (codes " -p " ++ behind),
      length-append (codes " -p ") behind,
      length-append (signed_decimal port) (codes " -t " ++ last),
      length-append (codes " -t ") last,
      length-append (printed_timeout timeout) z,
    )

opaque_few : (kind : ℤ) (v : ℕ × ℕ) (bytes : List ℕ) → FitsSigned w16 kind → IsVersion v → length (printed_opaque kind v bytes) ≤ 32 + 2 * length bytes
opaque_few kind v bytes k h =
    let last = codes " -x " ++ printed_bytes bytes in
    let behind = printed_version v ++ last in
    omega (
      arith,
      short_few kind k,
      version_few v h,
      bytes_few bytes,
      length-append (codes " -t ") (signed_decimal kind ++ (codes " -e " ++ behind)),
      length-append (signed_decimal kind) (codes " -e " ++ behind),
      length-append (codes " -e ") behind,
      length-append (printed_version v) last,
      length-append (codes " -x ") (printed_bytes bytes),
    )

endpoint_few : (e : Endpoint) → HasEndpointText e → suc (length (printed_endpoint e)) ≤ 5 * length (endpoint.put e)
endpoint_few (Tcp host port timeout compress) h =
    let rest = int.put port ++ (int.put timeout ++ bool.put compress) in
    omega (
      arith,
      tcp_few host port timeout compress h.1 h.2,
      length-append (codes "tcp") (printed_tcp host port timeout compress),
      length-append (text_bytes host) rest,
      length-append (size_bytes (length host)) host,
    )
endpoint_few (Opaque kind major minor bytes) h =
    omega (arith, opaque_few kind (major, minor) bytes h.0 h.1, length-append (codes "opaque") (printed_opaque kind (major, minor) bytes))

endpoints_few : (es : List Endpoint) → HaveEndpointTexts es → length (printed_endpoints es) ≤ 5 * length (flat_map endpoint.put es)
endpoints_few [] h = omega arith
endpoints_few (e ∷ es) h = omega (
  arith,
  endpoint_few e h.0,
  endpoints_few es h.1,
  length-append (58 ∷ printed_endpoint e) (printed_endpoints es),
  length-append (endpoint.put e) (flat_map endpoint.put es),
)

-- ---- what is put for a proxy has all of these

text_put : (s : List ℕ) → length s ≤ length (text_bytes s)
text_put s = omega (arith, length-append (size_bytes (length s)) s)

facet_put : (f : List ℕ) → length f ≤ length (facet.put f)
facet_put [] = omega arith
facet_put (c ∷ cs) = omega (arith, text_put (c ∷ cs), length-append (size_bytes 1) (text_bytes (c ∷ cs) ++ []), length-append (text_bytes (c ∷ cs)) [])

location_put : (es : List Endpoint) (adapter : List ℕ) → (es ≡ []) ⊎ (adapter ≡ []) → length (flat_map endpoint.put es) + length adapter ≤ length (location.put (es, adapter))
location_put [] adapter place = omega (arith, text_put adapter, length-append (size_bytes 0) (text_bytes adapter))
location_put (e ∷ es) adapter (inl none) = absurd cc
location_put (e ∷ es) adapter (inr none) = omega (arith, ap length none, length-append (size_bytes (suc (length es))) (flat_map endpoint.put (e ∷ es)))

-- how much of it is printed
abbrev parts_size : Proxy → ℕ
parts_size p = length p.facet + (length (flat_map endpoint.put p.endpoints) + length p.adapter)

named_put : (name : List ℕ) (p : Proxy) → (p.endpoints ≡ []) ⊎ (p.adapter ≡ []) → (named p.identity name).Is (Some p) → parts_size p ≤ length ((named p.identity name).put (Some p))
named_put [] p place is = absurd cc
named_put (c ∷ cs) p place is =
    let last = location.put (p.endpoints, p.adapter) in
    let versions = (p.protocol.0 ∷ p.protocol.1 ∷ []) ++ ((p.encoding.0 ∷ p.encoding.1 ∷ []) ++ last) in
    let behind = (p.mode ∷ []) ++ (bool.put p.secure ++ versions) in
    omega (
      arith,
      facet_put p.facet,
      location_put p.endpoints p.adapter place,
      length-append (facet.put p.facet) behind,
      length-append (bool.put p.secure) versions,
    )

proxy_put : (p : Proxy) → (p.endpoints ≡ []) ⊎ (p.adapter ≡ []) → (named p.identity p.identity.name).Is (Some p) → length p.identity.name + length p.identity.category + parts_size p ≤ length (proxy.put (Some p))
proxy_put p place is =
    let first = text_bytes p.identity.name in
    let second = text_bytes p.identity.category in
    omega (
      arith,
      named_put p.identity.name p place is,
      text_put p.identity.name,
      text_put p.identity.category,
      length-append first second,
      length-append (first ++ second) ((named p.identity p.identity.name).put (Some p)),
    )

printed_few : (p : Proxy) → HasText p → length (printed_proxy p) ≤ 50 + 5 * (length p.identity.name + length p.identity.category + parts_size p)
printed_few p has =
    let encoding = codes " -e " ++ printed_version p.encoding in
    let protocol = printed_protocol p.protocol in
    let secure = when p.secure (codes " -s") in
    let adapter = unless_empty (codes " @ ") p.adapter in
    omega (
      arith,
      identity_few p.identity,
      unless_few (codes " -f ") p.facet,
      mode_few p.mode,
      when_few p.secure (codes " -s"),
      protocol_by p.protocol (p.protocol.0 == 1 && p.protocol.1 == 0) has.protocol,
      version_few p.encoding has.encoding,
      endpoints_few p.endpoints has.endpoints,
      unless_few (codes " @ ") p.adapter,
      length-append (printed_identity p.identity) (printed_options p ++ (printed_endpoints p.endpoints ++ adapter)),
      length-append (printed_options p) (printed_endpoints p.endpoints ++ adapter),
      length-append (printed_endpoints p.endpoints) adapter,
      length-append (unless_empty (codes " -f ") p.facet) (printed_mode p.mode ++ (secure ++ (protocol ++ encoding))),
      length-append (printed_mode p.mode) (secure ++ (protocol ++ encoding)),
      length-append secure (protocol ++ encoding),
      length-append protocol encoding,
      length-append (codes " -e ") (printed_version p.encoding),
    )

-- ---- what bytes spell

pub spelled_short : (bytes : List ℕ) (p : Option Proxy) → IsBytes bytes → length bytes ≤ LARGEST → proxy.Spells bytes p → HasShortText p
spelled_short bytes None fits small h = tt
spelled_short bytes (Some p) fits small h =
    let is = proxy_lawful.sort bytes (Some p) fits h in
    let has = has_text LARGEST p is in
    omega (arith, printed_few p has, proxy_put p has.place is.1, proxy_lawful.shortest bytes (Some p) fits h, small)
