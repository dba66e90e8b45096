-- The objects of a server: a finite map from identity and facet to an object.
use Rattle.std.specs.Prelude.{◌≡◌, List, [], length}
use Rattle.object_adapter.specs.declared.servant.Servant.{Servant}
use Rattle.object_adapter.specs.Keys.{Key, AreKeys}

-- the key of each object in rising order, and the object itself at the same place
pub record Objects : Type 0 where
  pub keys : List Key
  pub servants : List Servant

-- an object for each key, no key twice, and at most a thousand
pub record AreObjects (o : Objects) : Type 0 where
  pub one_each : length o.servants ≡ length o.keys
  pub keys : AreKeys o.keys

abbrev pub no_objects : Objects
no_objects = record { keys = []; servants = [] }
