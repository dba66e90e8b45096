-- Why the next piece of a proxy's text cannot stand: one case for each kind of word that is due. (Ice manual, "Proxy and Endpoint Syntax".)
use Rattle.std.specs.Prelude.{ℕ, ℤ, pos, negsuc, ◌≡◌, ◌≢◌, ◌⊎◌, ◌==◌, ◌&&◌, Bool, false, List, [], ◌∷◌, ◌++◌, Option, None, Some, codes, if◌then◌else◌}
use Rattle.std.specs.Option.{option_and_then}
use Rattle.ice_types.specs.declared.identity.Identity.{Identity}
use Rattle.ice_types.specs.declared.proxy.Endpoint.{Endpoint}
use Rattle.ice_proxy.specs.declared.options.Options.{Options}
use Rattle.ice_proxy.specs.declared.options.Flag.{Flag}
use Rattle.ice_proxy.specs.declared.options.Flag.TheVariants as kinds
use Rattle.ice_proxy.specs.declared.tcp.TcpFlag.{TcpFlag}
use Rattle.ice_proxy.specs.declared.tcp.TcpFlag.TheVariants as tcp_kinds
use Rattle.ice_proxy.specs.declared.endpoints.Transport.{Transport}
use Rattle.ice_proxy.specs.declared.endpoints.Transport.TheVariants as transport_kinds
use Rattle.ice_proxy.specs.Words.{word, colon, at}
use Rattle.ice_proxy.specs.Escapes.{text_of, identity_of}
use Rattle.ice_proxy.specs.Numbers.{number, timeout, version, hexadecimal}
use Rattle.ice_proxy.specs.Options.{no_options, flags, is_given, no_tcp_options, tcp_flags, is_tcp_given, listed}
use Rattle.ice_proxy.specs.Grammar.{transports}
use Rattle.ice_proxy.specs.Pieces.{Piece, Pieces}
use Rattle.ice_proxy.specs.Spelled.{meant, Means, Word, this, fresh, AreOptions, Value, TcpValue, IsOpaque, AreEndpoints, AreNamed}

-- what cannot stand: the pieces before it, and it with those behind it, which may be none
abbrev pub Misplaced : Type 1
Misplaced = Pieces → Pieces → Type 0

-- nothing cannot stand
abbrev pub Never : Misplaced
Never = λ before behind. ⊥

-- ---- what is next

-- another word, `:`, `@` or the end
abbrev pub Lacks : {A : Type 0} → (List ℕ → Option A) → Pieces → Type 0
Lacks meaning [] = Unit {0}
Lacks meaning (p ∷ ps) = meant meaning p.token ≡ None

abbrev pub StartsWord : Pieces → Type 0
StartsWord [] = ⊥
StartsWord (p ∷ ps) = (bytes : List ℕ) × (p.token ≡ word bytes)

abbrev pub StartsAt : Pieces → Type 0
StartsAt [] = ⊥
StartsAt (p ∷ ps) = p.token ≡ at

-- there is no word of this meaning
abbrev pub No : {A : Type 0} → (List ℕ → Option A) → Misplaced
No meaning = λ before behind. (before ≡ []) × Lacks meaning behind

-- the part is not there; or it is, and what follows it is not
abbrev pub After : {A : Type 0} → (Pieces → A → Type 0) → Misplaced → (A → Misplaced) → Misplaced
After {A} Part NoPart NoNext = λ before behind. NoPart before behind ⊎ ((x : A) × (a b : Pieces) × (before ≡ a ++ b) × Part a x × NoNext x b behind)

-- ---- options

module _ {O F : Type 0} (rows : List (List ℕ × F)) (given : F → O → Bool) (V : F → O → Pieces → O → Type 0) (NoValue : F → Misplaced) where
  -- a word that is no option, or one that stands already; or its value is not there
  abbrev pub NoOption : O → Misplaced
  NoOption o = After (Word (fresh rows given o)) (λ before behind. (before ≡ []) × StartsWord behind × Lacks (fresh rows given o) behind) (λ flag. NoValue flag)

  -- the same behind other options
  abbrev pub NoOptions : O → Misplaced
  NoOptions o = λ before behind. (last : O) × (a b : Pieces) × (before ≡ a ++ b) × AreOptions rows given V o a last × NoOption last b behind

-- a facet, or a version
abbrev pub NoValue : Flag → Misplaced
NoValue kinds.Facet = No text_of
NoValue (kinds.Mode n) = Never
NoValue kinds.Secure = Never
NoValue kinds.Protocol = No version
NoValue kinds.Encoding = No version

-- a host, a port, or a timeout
abbrev pub NoTcpValue : TcpFlag → Misplaced
NoTcpValue tcp_kinds.Host = No text_of
NoTcpValue tcp_kinds.Port = No (number 32)
NoTcpValue tcp_kinds.Timeout = No timeout
NoTcpValue tcp_kinds.Compress = Never

-- ---- endpoints

-- type 1 and version 1.1
abbrev pub are_tcp : ℤ → ℕ × ℕ → Bool
are_tcp (pos n) v = n == 1 && (v.0 == 1 && v.1 == 1)
are_tcp (negsuc n) v = false

-- a version, unless it and the type are those of TCP
abbrev pub version_of : ℤ → List ℕ → Option (ℕ × ℕ)
version_of kind bytes = option_and_then (λ v. if are_tcp kind v then None else Some v) (version bytes)

-- `-t`, a type, `-e`, a version, `-x` or bytes
abbrev pub NoOpaque : Misplaced
NoOpaque = After (Word (this (codes "-t"))) (No (this (codes "-t"))) (λ t. After (Word (number 16)) (No (number 16)) (λ kind. After (Word (this (codes "-e"))) (No (this (codes "-e"))) (λ e.
    After (Word (version_of kind)) (No (version_of kind)) (λ v. After (Word (this (codes "-x"))) (No (this (codes "-x"))) (λ x. No hexadecimal)))))

abbrev pub NoEndpointBy : Transport → Misplaced
NoEndpointBy transport_kinds.Tcp = NoOptions tcp_flags is_tcp_given TcpValue NoTcpValue no_tcp_options
NoEndpointBy transport_kinds.Opaque = NoOpaque

-- `tcp`, `default` or `opaque`, or what follows it
abbrev pub NoEndpoint : Misplaced
NoEndpoint = After (Word (listed transports)) (No (listed transports)) NoEndpointBy

-- Behind endpoints that stand: `@`, or a word behind an opaque one, or `:` without an endpoint.
pub data NoEndpoints (before behind : Pieces) : Type 0 where
  adapter_too : (e : Endpoint) (es : List Endpoint) → AreEndpoints before (e ∷ es) → StartsAt behind → NoEndpoints before behind
  word_behind : (es : List Endpoint) (a c : Pieces) (mark transport : Piece) (e : Endpoint) → before ≡ a ++ mark ∷ transport ∷ c → AreEndpoints a es → mark.token ≡ colon
      → Means (listed transports) transport transport_kinds.Opaque → IsOpaque c e → StartsWord behind → NoEndpoints before behind
  no_endpoint : (es : List Endpoint) (a c : Pieces) (mark : Piece) → before ≡ a ++ mark ∷ c → AreEndpoints a es → mark.token ≡ colon → NoEndpoint c behind → NoEndpoints before behind

-- ---- where it is found

-- Behind `@`: no adapter, or anything behind it.
pub data NoAdapter (before behind : Pieces) : Type 0 where
  no_adapter : (mark : Piece) → mark.token ≡ at → before ≡ mark ∷ [] → Lacks text_of behind → NoAdapter before behind
  behind_adapter : (mark adapter : Piece) (x : List ℕ) → mark.token ≡ at → Means text_of adapter x → before ≡ mark ∷ adapter ∷ [] → behind ≢ [] → NoAdapter before behind

-- ---- a proxy

-- An identity is not there; or an option behind it; or what stands where it is found, behind the options.
abbrev pub NoProxy : Misplaced
NoProxy = λ before behind. After (Word identity_of) (No identity_of) (λ i. NoOptions flags is_given Value NoValue no_options) before behind
    ⊎ ((named : Identity × Options) × (a b : Pieces) × (before ≡ a ++ b) × AreNamed a named × (NoEndpoints b behind ⊎ NoAdapter b behind))
