-- The items of a list that is kept where there are any.
use Rattle.std.specs.Prelude.{List, [], Option, None, Some}
use Rattle.std.specs.declared.boxed.Box.{Box}
use Rattle.std.specs.declared.alloc.Global.{Global}

abbrev pub items_of : {T : Type 0} → Option (Box (List T) Global) → List T
items_of None = []
items_of (Some b) = b.value
