-- What is read where a port remembers nothing.
use Rattle.std.specs.Prelude.{Result, Ok}
use Rattle.ice_prims.specs.declared.fault.Fault.{Fault}
use Rattle.ice_prims.specs.Rest.{Rest, ◌>>=◌}
use Rattle.ice_encoding.specs.Tree.{Tree}

-- what is read, without what the port remembers, which is nothing
abbrev pub stateless : Result (Tree × (Unit {0}) × Rest) Fault → Result (Tree × Rest) Fault
stateless read = read >>= λ y. Ok (y.0, y.2)
