-- Which pieces stand for a proxy, and which texts. (Ice manual, "Proxy and Endpoint Syntax".)
--
--     proxy    = identity { option } ( { ":" endpoint } | "@" adapter )
--     endpoint = ( "tcp" | "default" ) { option of TCP } | "opaque" "-t" type "-e" version "-x" bytes
use Rattle.std.specs.Prelude.{ℕ, ℤ, pos, zero, suc, ◌≡◌, ◌⊎◌, Bool, true, List, [], ◌∷◌, ◌++◌, Option, None, Some, codes, if◌then◌else◌}
use Rattle.std.specs.Option.{option_and_then}
use Rattle.std.specs.Str.{bytes_eq}
use Rattle.ice_types.specs.declared.proxy.Endpoint.{Endpoint}
use Rattle.ice_types.specs.declared.proxy.Endpoint.TheVariants.{Opaque}
use Rattle.ice_types.specs.declared.identity.Identity.{Identity}
use Rattle.ice_types.specs.declared.proxy.Proxy.{Proxy}
use Rattle.ice_prims.specs.Rest.{whole}
use Rattle.ice_proxy.specs.declared.options.Options.{Options}
use Rattle.ice_proxy.specs.declared.options.Flag.{Flag}
use Rattle.ice_proxy.specs.declared.options.Flag.TheVariants as kinds
use Rattle.ice_proxy.specs.declared.tcp.TcpOptions.{TcpOptions}
use Rattle.ice_proxy.specs.declared.tcp.TcpFlag.{TcpFlag}
use Rattle.ice_proxy.specs.declared.tcp.TcpFlag.TheVariants as tcp_kinds
use Rattle.ice_proxy.specs.declared.endpoints.Transport.{Transport}
use Rattle.ice_proxy.specs.declared.endpoints.Transport.TheVariants as transport_kinds
use Rattle.ice_proxy.specs.Words.{Token, word, colon, at, end}
use Rattle.ice_proxy.specs.Escapes.{text_of, identity_of}
use Rattle.ice_proxy.specs.Numbers.{number, timeout, version, hexadecimal}
use Rattle.ice_proxy.specs.Options.{listed, no_options, flags, is_given, no_tcp_options, tcp_flags, is_tcp_given}
use Rattle.ice_proxy.specs.Grammar.{transports, tcp_of, proxy_of}
use Rattle.ice_proxy.specs.Pieces.{Piece, Pieces, HasPieces}

-- ---- words

-- what a piece means, None where it is no word or has not such a meaning
abbrev pub meant : {A : Type 0} → (List ℕ → Option A) → Token → Option A
meant meaning (word bytes) = meaning bytes
meant meaning colon = None
meant meaning at = None
meant meaning end = None

-- a word of this meaning
abbrev pub Means : {A : Type 0} → (List ℕ → Option A) → Piece → A → Type 0
Means meaning p x = meant meaning p.token ≡ Some x

-- that word alone
abbrev pub Word : {A : Type 0} → (List ℕ → Option A) → Pieces → A → Type 0
Word meaning ps x = (p : Piece) × (ps ≡ p ∷ []) × Means meaning p x

-- this very word
abbrev pub this : List ℕ → List ℕ → Option (Unit {0})
this known bytes = if bytes_eq bytes known then Some tt else None

-- ---- parts

-- one part, and behind it another, which may hang on what the first one means
abbrev pub Then : {A B : Type 0} → (Pieces → A → Type 0) → (A → Pieces → B → Type 0) → Pieces → B → Type 0
Then {A} {B} First Next ps y = (x : A) × (a b : Pieces) × (ps ≡ a ++ b) × First a x × Next x b y

-- a part, and what is made of its meaning
abbrev pub Made : {A B : Type 0} → (A → B) → (Pieces → A → Type 0) → Pieces → B → Type 0
Made {A} {B} make Part ps y = (x : A) × Part ps x × (y ≡ make x)

-- nothing, which changes nothing
abbrev pub Nothing : {A : Type 0} → A → Pieces → A → Type 0
Nothing x ps y = (ps ≡ []) × (y ≡ x)

-- ---- options

module _ {O F : Type 0} (rows : List (List ℕ × F)) (given : F → O → Bool) where
  -- the option that a word begins, unless that one stands already
  abbrev pub fresh : O → List ℕ → Option F
  fresh o bytes = option_and_then (λ flag. if given flag o then None else Some flag) (listed rows bytes)

  module _ (Value : F → O → Pieces → O → Type 0) where
    -- an option, behind those that made these
    abbrev pub AnOption : O → Pieces → O → Type 0
    AnOption o = Then (Word (fresh o)) (λ flag. Value flag o)

    abbrev pub SoMany : ℕ → O → Pieces → O → Type 0
    SoMany zero o = Nothing o
    SoMany (suc n) o = Then (AnOption o) (SoMany n)

    -- options in any order, each once at most
    abbrev pub AreOptions : O → Pieces → O → Type 0
    AreOptions o ps last = (n : ℕ) × SoMany n o ps last

-- what stands behind the word of an option, and the options with it
abbrev pub Value : Flag → Options → Pieces → Options → Type 0
Value kinds.Facet o = Made (λ x. record o { facet = Some x }) (Word text_of)
Value (kinds.Mode n) o = Nothing (record o { mode = Some n })
Value kinds.Secure o = Nothing (record o { secure = true })
Value kinds.Protocol o = Made (λ x. record o { protocol = Some x }) (Word version)
Value kinds.Encoding o = Made (λ x. record o { encoding = Some x }) (Word version)

abbrev pub TcpValue : TcpFlag → TcpOptions → Pieces → TcpOptions → Type 0
TcpValue tcp_kinds.Host o = Made (λ x. record o { host = Some x }) (Word text_of)
TcpValue tcp_kinds.Port o = Made (λ x. record o { port = Some x }) (Word (number 32))
TcpValue tcp_kinds.Timeout o = Made (λ x. record o { timeout = Some x }) (Word timeout)
TcpValue tcp_kinds.Compress o = Nothing (record o { compress = true })

-- ---- endpoints

-- Behind `opaque`: `-t` and a type, `-e` and a version, `-x` and bytes. Type 1 in version 1.1 is TCP, which is not spelled so.
pub record IsOpaque (ps : Pieces) (e : Endpoint) : Type 0 where
  pub type_option : Piece
  pub type : Piece
  pub version_option : Piece
  pub versions : Piece
  pub bytes_option : Piece
  pub bytes : Piece
  pub kind : ℤ
  pub major : ℕ
  pub minor : ℕ
  pub content : List ℕ
  pub words : ps ≡ type_option ∷ type ∷ version_option ∷ versions ∷ bytes_option ∷ bytes ∷ []
  pub is_type_option : Means (this (codes "-t")) type_option tt
  pub is_type : Means (number 16) type kind
  pub is_version_option : Means (this (codes "-e")) version_option tt
  pub is_version : Means version versions (major, minor)
  pub no_tcp : (kind ≡ pos 1) × (major ≡ 1) × (minor ≡ 1) → ⊥
  pub is_bytes_option : Means (this (codes "-x")) bytes_option tt
  pub is_bytes : Means hexadecimal bytes content
  pub is : e ≡ Opaque kind major minor content

-- what stands behind the name of a transport
abbrev pub EndpointBy : Transport → Pieces → Endpoint → Type 0
EndpointBy transport_kinds.Tcp = Made tcp_of (AreOptions tcp_flags is_tcp_given TcpValue no_tcp_options)
EndpointBy transport_kinds.Opaque = IsOpaque

abbrev pub AnEndpoint : Pieces → Endpoint → Type 0
AnEndpoint = Then (Word (listed transports)) EndpointBy

-- each behind `:`
abbrev pub AreEndpoints : Pieces → List Endpoint → Type 0
AreEndpoints ps [] = ps ≡ []
AreEndpoints ps (e ∷ es) = (p : Piece) × (a b : Pieces) × (ps ≡ p ∷ (a ++ b)) × (p.token ≡ colon) × AnEndpoint a e × AreEndpoints b es

-- ---- where it is found

-- an adapter behind `@`
abbrev pub AnAdapter : Pieces → List ℕ → Type 0
AnAdapter ps x = (p : Piece) × (a : Pieces) × (ps ≡ p ∷ a) × (p.token ≡ at) × Word text_of a x

-- endpoints, which may be none, or an adapter
abbrev pub IsLocation : Pieces → List Endpoint × List ℕ → Type 0
IsLocation ps l = Made (λ es. (es, [])) AreEndpoints ps l ⊎ Made (λ adapter. ([], adapter)) AnAdapter ps l

-- ---- a proxy

-- an identity, and behind it options
abbrev pub AreNamed : Pieces → Identity × Options → Type 0
AreNamed = Then (Word identity_of) (λ i. Made (λ o. (i, o)) (AreOptions flags is_given Value no_options))

abbrev pub IsProxy : Pieces → Proxy → Type 0
IsProxy = Then AreNamed (λ named. Made (proxy_of named.0 named.1) IsLocation)

-- the text of a proxy
abbrev pub SpellsProxy : List ℕ → Proxy → Type 0
SpellsProxy text p = (ps : Pieces) × HasPieces (whole text) ps × IsProxy ps p

-- the text of an identity, which is one word
abbrev pub SpellsIdentity : List ℕ → Identity → Type 0
SpellsIdentity text i = (ps : Pieces) × HasPieces (whole text) ps × Word identity_of ps i
