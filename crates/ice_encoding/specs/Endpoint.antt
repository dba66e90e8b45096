-- Where an object is served: a type, and behind it an encapsulation of any version. (Ice manual, "Data Encoding for Proxies".)
use Rattle.std.specs.Prelude.{ℕ, ℤ, pos, negsuc, ◌≡◌, ◌<◌, ◌^◌, Bool, true, false, ◌&&◌, List, [], ◌∷◌, Result, Ok, nat_eq}
use Rattle.ice_types.specs.declared.proxy.Endpoint.{Endpoint}
use Rattle.ice_types.specs.declared.proxy.Endpoint.TheVariants.{Tcp, Opaque}
use Rattle.ice_prims.specs.declared.fault.Fault.{Fault}
use Rattle.ice_prims.specs.Rest.{Rest, ◌>>=◌, IsBytes}
use Rattle.ice_encoding.specs.Parts.{Part, bool, short, int, text, version, both, made, chosen}
use Rattle.ice_encoding.specs.declared.limits.TheConstants.{LARGEST}
use Rattle.ice_encoding.specs.Bounds.{Content, enclosed_to, filled, size_with}

abbrev pub is_one : ℤ → Bool
is_one (pos n) = nat_eq n 1
is_one (negsuc n) = false

-- type 1 in version 1.1
abbrev pub is_tcp : ℤ → ℕ × ℕ → Bool
is_tcp kind v = is_one kind && (nat_eq v.0 1 && nat_eq v.1 1)

-- ---- TCP: host, port, timeout, and whether it compresses

abbrev pub tcp_parts : Endpoint → List ℕ × (ℤ × (ℤ × Bool))
tcp_parts (Tcp host port timeout compress) = (host, (port, (timeout, compress)))
tcp_parts (Opaque kind major minor bytes) = ([], (pos 0, (pos 0, false)))

-- host, port, timeout, and whether it compresses
abbrev pub tcp : Part Endpoint
tcp = made (λ x. Tcp x.0 x.1.0 x.1.1.0 x.1.1.1) tcp_parts (both text (both int (both int bool)))

-- ---- what an endpoint of this type says behind its size

-- by whether it is TCP; of every other transport the bytes are kept as they are
abbrev pub said_at : Bool → ℤ → ℕ × ℕ → Rest → Result Endpoint Fault
said_at true kind v r = filled tcp.read r
said_at false kind v r = Ok (Opaque kind v.0 v.1 r.bytes)

abbrev pub SpellsSaid : Bool → ℤ → ℕ × ℕ → List ℕ → Endpoint → Type 0
SpellsSaid true kind v bytes e = tcp.Spells bytes e
SpellsSaid false kind v bytes e = e ≡ Opaque kind v.0 v.1 bytes

abbrev pub said_bytes : Endpoint → List ℕ
said_bytes (Tcp host port timeout compress) = 1 ∷ 1 ∷ tcp.put (Tcp host port timeout compress)
said_bytes (Opaque kind major minor bytes) = major ∷ minor ∷ bytes

-- one of TCP is not kept as bytes
abbrev pub IsSaid : ℤ → Endpoint → Type 0
IsSaid kind (Tcp host port timeout compress) = (kind ≡ pos 1) × tcp.Is (Tcp host port timeout compress)
IsSaid kind (Opaque other major minor bytes) = (other ≡ kind) × (major < 256) × (minor < 256) × (is_tcp kind (major, minor) ≡ false) × IsBytes bytes

-- a version, and what goes by it
abbrev pub said : ℤ → Content Endpoint
said kind = record {
  read = λ r. version.read r >>= λ v. said_at (is_tcp kind v.0) kind v.0 v.1;
  Spells = λ bytes e. (v : ℕ × ℕ) × (inside : List ℕ) × (bytes ≡ v.0 ∷ v.1 ∷ inside) × SpellsSaid (is_tcp kind v) kind v inside e;
  put = said_bytes;
  Is = IsSaid kind;
}

-- ---- an endpoint

abbrev pub kind_of : Endpoint → ℤ
kind_of (Tcp host port timeout compress) = pos 1
kind_of (Opaque kind major minor bytes) = kind

-- A type and an encapsulation of any version: type 1 in version 1.1 is TCP, of every other the content is kept as it
-- is. There are those whose encapsulation is at most of this size.
abbrev pub endpoint_to : ℕ → Part Endpoint
endpoint_to most = chosen short (λ kind. enclosed_to most (said kind)) kind_of

-- of those that can be read again
abbrev pub endpoint : Part Endpoint
endpoint = endpoint_to LARGEST

-- its size is one that can be written
abbrev pub EndpointHasSize : Endpoint → Type 0
EndpointHasSize e = size_with (said (kind_of e)) e < 2 ^ 31
