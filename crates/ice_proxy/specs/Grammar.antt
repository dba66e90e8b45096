-- The text of a proxy: an identity, options, and endpoints or an adapter. (Ice manual, "Proxy and Endpoint Syntax".)
use Rattle.std.specs.Prelude.{ℕ, ℤ, pos, negsuc, zero, suc, ◌==◌, ◌&&◌, List, [], ◌∷◌, length, Option, None, Some, Ok, Err, codes, if◌then◌else◌}
use Rattle.std.specs.Str.{bytes_eq}
use Rattle.ice_types.specs.declared.identity.Identity.{Identity}
use Rattle.ice_types.specs.declared.proxy.Endpoint.{Endpoint}
use Rattle.ice_types.specs.declared.proxy.Endpoint.TheVariants.{Tcp, Opaque}
use Rattle.ice_types.specs.declared.proxy.Proxy.{Proxy}
use Rattle.ice_prims.specs.Rest.{Rest, whole}
use Rattle.ice_proxy.specs.Escapes.{text_of, identity_of}
use Rattle.ice_proxy.specs.declared.options.Options.{Options}
use Rattle.ice_proxy.specs.declared.tcp.TcpOptions.{TcpOptions}
use Rattle.ice_proxy.specs.declared.endpoints.Transport.{Transport}
use Rattle.ice_proxy.specs.declared.endpoints.Transport.TheVariants as transport_kinds
use Rattle.ice_proxy.specs.Numbers.{number, version, hexadecimal}
use Rattle.ice_proxy.specs.Looking.{Parsed, ◌>>=◌, place_at, word_as, at_ahead, colon_at, end_at}
use Rattle.ice_proxy.specs.Options.{listed, no_options, flags, is_given, with_flag, options_at, no_tcp_options, tcp_flags, is_tcp_given, with_tcp_flag}

-- what stands, or what it is where it is left out
abbrev pub or : {A : Type 0} → Option A → A → A
or None x = x
or (Some y) x = y

-- ---- endpoints

-- host, port, timeout and compression, with what stands for those that are left out
abbrev pub tcp_of : TcpOptions → Endpoint
tcp_of o = Tcp (or o.host []) (or o.port (pos 0)) (or o.timeout (pos 60000)) o.compress

-- this very word
abbrev pub exactly : List ℕ → Rest → Parsed (Unit {0} × Rest)
exactly known r = word_as (λ bytes. if bytes_eq bytes known then Some tt else None) r

-- Type 1 in version 1.1 is TCP, which is not spelled so.
abbrev pub not_tcp : ℕ → ℤ → ℕ × ℕ → Parsed (Unit {0})
not_tcp place (pos n) v = if n == 1 && (v.0 == 1 && v.1 == 1) then Err place else Ok tt
not_tcp place (negsuc n) v = Ok tt

-- type, version and content of another transport, in this order
abbrev pub opaque_at : Rest → Parsed (Endpoint × Rest)
opaque_at r = do
  t ← exactly (codes "-t") r
  kind ← word_as (number 16) t.1
  e ← exactly (codes "-e") kind.1
  v ← word_as version e.1
  other ← not_tcp (place_at t.1) kind.0 v.0
  x ← exactly (codes "-x") v.1
  content ← word_as hexadecimal x.1
  Ok (Opaque kind.0 v.0.0 v.0.1 content.0, content.1)

abbrev pub transports : List (List ℕ × Transport)
transports = (codes "tcp", transport_kinds.Tcp) ∷ (codes "default", transport_kinds.Tcp) ∷ (codes "opaque", transport_kinds.Opaque) ∷ []

abbrev pub endpoint_by : Transport → Rest → Parsed (Endpoint × Rest)
endpoint_by transport_kinds.Tcp r = options_at tcp_flags is_tcp_given with_tcp_flag no_tcp_options r >>= λ o. Ok (tcp_of o.0, o.1)
endpoint_by transport_kinds.Opaque r = opaque_at r

-- an endpoint that begins here
abbrev pub endpoint_at : Rest → Parsed (Endpoint × Rest)
endpoint_at r = word_as (listed transports) r >>= λ t. endpoint_by t.0 t.1

-- endpoints, each behind `:`, up to the end of the text
abbrev pub endpoints_from : (Rest → Parsed (List Endpoint)) → Option Rest → Parsed (List Endpoint)
endpoints_from more None = Ok []
endpoints_from more (Some r) = endpoint_at r >>= λ e. more e.1 >>= λ others. Ok (e.0 ∷ others)

-- Each has a byte at least, so there are fewer than this many steps.
abbrev pub endpoints_within : ℕ → Rest → Parsed (List Endpoint)
endpoints_within zero r = Err r.place
endpoints_within (suc steps) r = colon_at r >>= endpoints_from (endpoints_within steps)

abbrev pub endpoints_at : Rest → Parsed (List Endpoint)
endpoints_at r = endpoints_within (suc (length r.bytes)) r

-- ---- where it is found

-- an adapter behind `@`, or endpoints, or nothing
abbrev pub location_from : Rest → Option Rest → Parsed (List Endpoint × List ℕ)
location_from r None = endpoints_at r >>= λ es. Ok (es, [])
location_from r (Some behind) = word_as text_of behind >>= λ adapter. end_at adapter.1 >>= λ e. Ok ([], adapter.0)

-- the endpoints or the adapter behind the options
abbrev pub location_at : Rest → Parsed (List Endpoint × List ℕ)
location_at r = location_from r (at_ahead r)

-- ---- a proxy

-- with what stands for the options that are left out
abbrev pub proxy_of : Identity → Options → List Endpoint × List ℕ → Proxy
proxy_of i o l = record {
  identity = i;
  facet = or o.facet [];
  mode = or o.mode 0;
  secure = o.secure;
  protocol = or o.protocol (1, 0);
  encoding = or o.encoding (1, 1);
  endpoints = l.0;
  adapter = l.1;
}

-- the proxy of a text, or the place of the first word that cannot stand
abbrev pub proxy_text : List ℕ → Parsed Proxy
proxy_text bytes = do
  i ← word_as identity_of (whole bytes)
  o ← options_at flags is_given with_flag no_options i.1
  l ← location_at o.1
  Ok (proxy_of i.0 o.0 l)
