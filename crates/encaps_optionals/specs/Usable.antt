-- Which endpoints a client here can use, and which of them has a number. (Ice manual, "Connection Establishment".)
use Rattle.std.specs.Prelude.{ℕ, ℤ, pos, negsuc, zero, suc, ◌%◌, List, [], ◌∷◌, length, Option, Some, None, nat_lt, if◌then◌else◌, slice_get}
use Rattle.std.specs.List.{filter_map}
use Rattle.ice_types.specs.declared.proxy.Endpoint.{Endpoint}
use Rattle.ice_types.specs.declared.proxy.Endpoint.TheVariants.{Tcp, Opaque}

-- this host with this port, where there is a host and the port is from 1 to 65535
abbrev pub reached : List ℕ → ℤ → Option (List ℕ × ℕ)
reached [] port = None
reached (c ∷ cs) (pos zero) = None
reached (c ∷ cs) (pos (suc n)) = if nat_lt n 65535 then Some (c ∷ cs, suc n) else None
reached (c ∷ cs) (negsuc n) = None

-- host and port of an endpoint that can be used
abbrev pub usable_one : Endpoint → Option (List ℕ × ℕ)
usable_one (Tcp host port timeout compress) = reached host port
usable_one (Opaque kind major minor bytes) = None

-- those that can be used, in order
abbrev pub usable : List Endpoint → List (List ℕ × ℕ)
usable endpoints = filter_map usable_one endpoints

-- the one with this number, counted from 0 and round again
abbrev pub tcp_at : ℕ → List Endpoint → Option (List ℕ × ℕ)
tcp_at number endpoints = slice_get (usable endpoints) (number % length (usable endpoints))
