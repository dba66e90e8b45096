-- The printed text of a proxy. (Ice manual, "Proxy and Endpoint Syntax"; which options are printed and in which order is this node's choice.)
use Rattle.std.specs.Prelude.{ℕ, ℤ, pos, zero, suc, ◌<◌, ◌≤◌, ◌≡◌, ◌≢◌, ◌⊎◌, ◌==◌, ◌&&◌, Bool, true, false, List, [], ◌∷◌, ◌++◌, codes, if◌then◌else◌, FitsSigned}
use Rattle.std.specs.Int.{w16, w32}
use Rattle.std.specs.Fmt.{signed_decimal}
use Rattle.std.specs.List.{flat_map}
use Rattle.std.specs.Str.{IsUtf8}
use Rattle.ice_types.specs.declared.proxy.Endpoint.{Endpoint}
use Rattle.ice_types.specs.declared.proxy.Endpoint.TheVariants.{Tcp, Opaque}
use Rattle.ice_types.specs.declared.proxy.Proxy.{Proxy}
use Rattle.ice_prims.specs.Rest.{IsBytes}
use Rattle.ice_proxy.specs.PrintedWords.{printed_text, printed_identity}
use Rattle.ice_proxy.specs.Numbers.{printed_timeout, printed_version, printed_bytes}

-- an option and its text, left out where the text is empty
abbrev pub unless_empty : List ℕ → List ℕ → List ℕ
unless_empty option [] = []
unless_empty option (c ∷ cs) = option ++ printed_text (c ∷ cs)

abbrev pub when : Bool → List ℕ → List ℕ
when true option = option
when false option = []

-- -t twoway, -o oneway, -O batch oneway, -d datagram, -D batch datagram
abbrev pub printed_mode : ℕ → List ℕ
printed_mode zero = codes " -t"
printed_mode (suc zero) = codes " -o"
printed_mode (suc (suc zero)) = codes " -O"
printed_mode (suc (suc (suc zero))) = codes " -d"
printed_mode (suc (suc (suc (suc n)))) = codes " -D"

-- left out where it is 1.0
abbrev pub printed_protocol : ℕ × ℕ → List ℕ
printed_protocol v = if v.0 == 1 && v.1 == 0 then [] else codes " -p " ++ printed_version v

abbrev pub printed_tcp : List ℕ → ℤ → ℤ → Bool → List ℕ
printed_tcp host port timeout compress = unless_empty (codes " -h ") host ++ (codes " -p " ++ (signed_decimal port ++ (codes " -t " ++ (printed_timeout timeout ++ when compress (codes " -z")))))

abbrev pub printed_opaque : ℤ → ℕ × ℕ → List ℕ → List ℕ
printed_opaque kind v bytes = codes " -t " ++ (signed_decimal kind ++ (codes " -e " ++ (printed_version v ++ (codes " -x " ++ printed_bytes bytes))))

abbrev pub printed_endpoint : Endpoint → List ℕ
printed_endpoint (Tcp host port timeout compress) = codes "tcp" ++ printed_tcp host port timeout compress
printed_endpoint (Opaque kind major minor bytes) = codes "opaque" ++ printed_opaque kind (major, minor) bytes

-- each behind `:`
abbrev pub printed_endpoints : List Endpoint → List ℕ
printed_endpoints es = flat_map (λ e. 58 ∷ printed_endpoint e) es

abbrev pub printed_options : Proxy → List ℕ
printed_options p = unless_empty (codes " -f ") p.facet ++ (printed_mode p.mode ++ (when p.secure (codes " -s") ++ (printed_protocol p.protocol ++ (codes " -e " ++ printed_version p.encoding))))

-- the printed text of a proxy
abbrev pub printed_proxy : Proxy → List ℕ
printed_proxy p = printed_identity p.identity ++ (printed_options p ++ (printed_endpoints p.endpoints ++ unless_empty (codes " @ ") p.adapter))

-- ---- which proxies a text can have

abbrev pub IsVersion : ℕ × ℕ → Type 0
IsVersion v = (v.0 < 256) × (v.1 < 256)

abbrev pub HasEndpointText : Endpoint → Type 0
HasEndpointText (Tcp host port timeout compress) = IsUtf8 host × FitsSigned w32 port × FitsSigned w32 timeout
HasEndpointText (Opaque kind major minor bytes) = FitsSigned w16 kind × IsVersion (major, minor) × IsBytes bytes × ((kind ≡ pos 1) × (major ≡ 1) × (minor ≡ 1) → ⊥)

abbrev pub HaveEndpointTexts : List Endpoint → Type 0
HaveEndpointTexts [] = Unit {0}
HaveEndpointTexts (e ∷ es) = HasEndpointText e × HaveEndpointTexts es

-- a name, texts in UTF-8, a mode that there is, and an adapter only where there is no endpoint
pub record HasText (p : Proxy) : Type 0 where
  pub name : p.identity.name ≢ []
  pub name_text : IsUtf8 p.identity.name
  pub category : IsUtf8 p.identity.category
  pub facet : IsUtf8 p.facet
  pub mode : p.mode ≤ 4
  pub protocol : IsVersion p.protocol
  pub encoding : IsVersion p.encoding
  pub endpoints : HaveEndpointTexts p.endpoints
  pub adapter : IsUtf8 p.adapter
  pub place : (p.endpoints ≡ []) ⊎ (p.adapter ≡ [])
