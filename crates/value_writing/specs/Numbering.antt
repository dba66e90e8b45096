-- References as numbers, when they are written.
use Rattle.std.specs.Prelude.{ℕ, Option, None}
use Rattle.ice_prims.specs.Bytes.{size_bytes}
use Rattle.ice_encoding.specs.Port.{size_of}
use Rattle.ice_encoding.specs.Pausing.{Put}

-- the bytes of a reference as a number, at which nothing begins
abbrev pub number_put : Option ℕ → Unit {0} → Put (Unit {0})
number_put n s = record { bytes = size_bytes (size_of n); begun = None; after = s }
