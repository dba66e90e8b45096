-- The pieces of a proxy, read from the left.
use Rattle.std.proofs.Common.{ℕ, ℤ, pos, negsuc, zero, suc, Bool, true, false, eqb, ◌&&◌, List, [], ◌∷◌, length, Option, None, Some, Ok, Err, codes}
use Rattle.std.specs.Option.{option_and_then}
use Rattle.ice_types.specs.declared.identity.Identity.{Identity}
use Rattle.ice_types.specs.declared.proxy.Endpoint.{Endpoint}
use Rattle.ice_types.specs.declared.proxy.Endpoint.TheVariants.{Opaque}
use Rattle.ice_types.specs.declared.proxy.Proxy.{Proxy}
use Rattle.ice_proxy.specs.declared.options.Options.{Options}
use Rattle.ice_proxy.specs.declared.options.Flag.{Flag}
use Rattle.ice_proxy.specs.declared.options.Flag.TheVariants as kinds
use Rattle.ice_proxy.specs.declared.tcp.TcpOptions.{TcpOptions}
use Rattle.ice_proxy.specs.declared.tcp.TcpFlag.{TcpFlag}
use Rattle.ice_proxy.specs.declared.tcp.TcpFlag.TheVariants as tcp_kinds
use Rattle.ice_proxy.specs.declared.endpoints.Transport.{Transport}
use Rattle.ice_proxy.specs.declared.endpoints.Transport.TheVariants as transport_kinds
use Rattle.ice_proxy.specs.Words.{Token, word, colon, at, end}
use Rattle.ice_proxy.specs.Escapes.{text_of, identity_of}
use Rattle.ice_proxy.specs.Numbers.{number, timeout, version, hexadecimal}
use Rattle.ice_proxy.specs.Options.{listed, no_options, flags, is_given, no_tcp_options, tcp_flags, is_tcp_given}
use Rattle.ice_proxy.specs.Grammar.{transports, tcp_of, proxy_of}
use Rattle.ice_proxy.specs.Pieces.{Piece, Pieces}
use Rattle.ice_proxy.specs.Spelled.{meant, this, fresh}
use Rattle.ice_proxy.proofs.PieceLaws.{Reading, ◌>>>◌, first, one_at}

-- ---- what the next piece is

abbrev pub is_word : Token → Bool
is_word (word bytes) = true
is_word colon = false
is_word at = false
is_word end = false

abbrev pub is_at : Token → Bool
is_at (word bytes) = false
is_at colon = false
is_at at = true
is_at end = false

abbrev pub next_word : Option Piece → Bool
next_word None = false
next_word (Some p) = is_word p.token

abbrev pub next_at : Option Piece → Bool
next_at None = false
next_at (Some p) = is_at p.token

-- ---- one piece

abbrev pub no_blame : Pieces → Option Piece
no_blame ps = None

abbrev pub seen_as : {A : Type 0} → (List ℕ → Option A) → Piece → Option A
seen_as meaning p = meant meaning p.token

abbrev pub word_as : {A : Type 0} → (List ℕ → Option A) → Pieces → Reading A
word_as meaning = one_at (seen_as meaning) no_blame

abbrev pub colon_token : Token → Option (Unit {0})
colon_token (word bytes) = None
colon_token colon = Some tt
colon_token at = None
colon_token end = None

abbrev pub colon_piece : Piece → Option (Unit {0})
colon_piece p = colon_token p.token

abbrev pub at_token : Token → Option (Unit {0})
at_token (word bytes) = None
at_token colon = None
at_token at = Some tt
at_token end = None

abbrev pub at_piece : Piece → Option (Unit {0})
at_piece p = at_token p.token

abbrev pub end_at : Pieces → Reading (Unit {0})
end_at [] = Ok (tt, [])
end_at (p ∷ ps) = Err (record { behind = p ∷ ps; blamed = None })

-- ---- options

module _ {O F : Type 0} (rows : List (List ℕ × F)) (given : F → O → Bool) (value : F → O → Pieces → Reading O) where
  abbrev pub option_at : O → Pieces → Reading O
  option_at o ps = word_as (fresh rows given o) ps >>> λ flag. value flag.0 o flag.1

  abbrev pub options_within : ℕ → O → Pieces → Reading O
  options_within zero o ps = Ok (o, ps)
  options_within (suc n) o ps = elim (next_word (first ps)) [ true ↦ option_at o ps >>> λ x. options_within n x.0 x.1 | false ↦ Ok (o, ps) ]

  unfoldable pub options_at : O → Pieces → Reading O
  options_at o ps = options_within (suc (length ps)) o ps

abbrev pub value_at : Flag → Options → Pieces → Reading Options
value_at kinds.Facet o ps = word_as text_of ps >>> λ x. Ok (record o { facet = Some x.0 }, x.1)
value_at (kinds.Mode n) o ps = Ok (record o { mode = Some n }, ps)
value_at kinds.Secure o ps = Ok (record o { secure = true }, ps)
value_at kinds.Protocol o ps = word_as version ps >>> λ x. Ok (record o { protocol = Some x.0 }, x.1)
value_at kinds.Encoding o ps = word_as version ps >>> λ x. Ok (record o { encoding = Some x.0 }, x.1)

abbrev pub tcp_value_at : TcpFlag → TcpOptions → Pieces → Reading TcpOptions
tcp_value_at tcp_kinds.Host o ps = word_as text_of ps >>> λ x. Ok (record o { host = Some x.0 }, x.1)
tcp_value_at tcp_kinds.Port o ps = word_as (number 32) ps >>> λ x. Ok (record o { port = Some x.0 }, x.1)
tcp_value_at tcp_kinds.Timeout o ps = word_as timeout ps >>> λ x. Ok (record o { timeout = Some x.0 }, x.1)
tcp_value_at tcp_kinds.Compress o ps = Ok (record o { compress = true }, ps)

-- ---- endpoints

abbrev pub is_tcp : ℤ → ℕ × ℕ → Bool
is_tcp (pos n) v = eqb n 1 && (eqb v.0 1 && eqb v.1 1)
is_tcp (negsuc n) v = false

-- a type, and the piece that has it
abbrev pub typed : Piece → Option (ℤ × Piece)
typed p = option_and_then (λ z. Some (z, p)) (meant (number 16) p.token)

-- the version, which is not that of TCP behind the type of TCP
abbrev pub versioned : ℤ × Piece → Piece → Option (ℕ × ℕ)
versioned kind p = option_and_then (λ v. elim (is_tcp kind.0 v) [ true ↦ None | false ↦ Some v ]) (meant version p.token)

abbrev pub blamed_by : ℤ × Piece → Option (ℕ × ℕ) → Option Piece
blamed_by kind None = None
blamed_by kind (Some v) = elim (is_tcp kind.0 v) [ true ↦ Some kind.1 | false ↦ None ]

abbrev pub blame_type : ℤ × Piece → Pieces → Option Piece
blame_type kind [] = None
blame_type kind (p ∷ ps) = blamed_by kind (meant version p.token)

abbrev pub opaque_at : Pieces → Reading Endpoint
opaque_at ps = word_as (this (codes "-t")) ps
    >>> λ t. one_at typed no_blame t.1
    >>> λ kind. word_as (this (codes "-e")) kind.1
    >>> λ e. one_at (versioned kind.0) (blame_type kind.0) e.1
    >>> λ v. word_as (this (codes "-x")) v.1
    >>> λ x. word_as hexadecimal x.1
    >>> λ content. Ok (Opaque kind.0.0 v.0.0 v.0.1 content.0, content.1)

abbrev pub endpoint_by : Transport → Pieces → Reading Endpoint
endpoint_by transport_kinds.Tcp ps = options_at tcp_flags is_tcp_given tcp_value_at no_tcp_options ps >>> λ o. Ok (tcp_of o.0, o.1)
endpoint_by transport_kinds.Opaque ps = opaque_at ps

abbrev pub endpoint_at : Pieces → Reading Endpoint
endpoint_at ps = word_as (listed transports) ps >>> λ t. endpoint_by t.0 t.1

abbrev pub endpoints_within : ℕ → Pieces → Reading (List Endpoint)
endpoints_within zero ps = Ok ([], ps)
endpoints_within (suc n) [] = Ok ([], [])
endpoints_within (suc n) (p ∷ ps) = one_at colon_piece no_blame (p ∷ ps) >>> λ c. endpoint_at c.1 >>> λ e. endpoints_within n e.1 >>> λ es. Ok (e.0 ∷ es.0, es.1)

unfoldable pub endpoints_at : Pieces → Reading (List Endpoint)
endpoints_at ps = endpoints_within (suc (length ps)) ps

-- ---- where it is found

abbrev pub adapter_at : Pieces → Reading (List Endpoint × List ℕ)
adapter_at ps = one_at at_piece no_blame ps >>> λ a. word_as text_of a.1 >>> λ x. end_at x.1 >>> λ e. Ok (([], x.0), e.1)

abbrev pub location_at : Pieces → Reading (List Endpoint × List ℕ)
location_at ps = elim (next_at (first ps)) [ true ↦ adapter_at ps | false ↦ endpoints_at ps >>> λ es. Ok ((es.0, []), es.1) ]

-- ---- a proxy

abbrev pub named_at : Pieces → Reading (Identity × Options)
named_at ps = word_as identity_of ps >>> λ i. options_at flags is_given value_at no_options i.1 >>> λ o. Ok ((i.0, o.0), o.1)

abbrev pub proxy_at : Pieces → Reading Proxy
proxy_at ps = named_at ps >>> λ named. location_at named.1 >>> λ l. Ok (proxy_of named.0.0 named.0.1 l.0, l.1)
