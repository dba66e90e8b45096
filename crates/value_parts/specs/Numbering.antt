-- References as numbers, when they are read.
use Rattle.std.specs.Prelude.{ℕ, Option, Ok}
use Rattle.ice_prims.specs.Number.{size_at}
use Rattle.ice_prims.specs.Rest.{◌>>=◌}
use Rattle.ice_encoding.specs.Port.{Reader, number_of}
use Rattle.ice_encoding.specs.Pausing.{Met, known}

-- a reference as a number, at which nothing begins
abbrev pub number_taken : Option ℕ → Reader (Unit {0}) Met
number_taken at s r = size_at r >>= λ n. Ok (known (number_of n.0), s, n.1)
