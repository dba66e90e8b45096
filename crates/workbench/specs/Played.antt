-- What has been played.
use Rattle.std.specs.Prelude.{List}
use Rattle.workbench.specs.declared.world.Call.{Call}
use Rattle.workbench.specs.declared.world.Connection.{Connection}

-- the calls and the connections, by their numbers
pub record Played : Type 0 where
  pub calls : List Call
  pub connections : List Connection
