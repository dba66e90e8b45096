-- What the calls that keep a dictionary's pairs answer.
use Rattle.std.specs.Prelude.{◌≡◌, Bool, true, false, List, Option, None, Some}
use Rattle.std.specs.Option.{option_map}
use Rattle.ice_encoding.specs.Tree.{Tree}
use Rattle.ice_encoding.specs.Order.{has_key, insert}
use Rattle.graph_arena.specs.declared.value.Value.{Value}
use Rattle.graph_arena.specs.View.{view, view_pairs}

-- the pairs that are read, and the key that waits for its value
abbrev pub Sorted : Type 0
Sorted = List (Value × Value) × Option Value

-- A new key waits. One that is not new changes nothing.
abbrev pub PutsKey : Tree → Sorted → Sorted → Bool → Type 0
PutsKey k old new true = (has_key k (view_pairs old.0) ≡ false) × (view_pairs new.0 ≡ view_pairs old.0) × (option_map view new.1 ≡ Some k)
PutsKey k old new false = (has_key k (view_pairs old.0) ≡ true) × (view_pairs new.0 ≡ view_pairs old.0) × (new.1 ≡ None)

-- the pair of the key that waits is put at its place
abbrev pub PutsValueAt : Option Value → Tree → Sorted → Sorted → Type 0
PutsValueAt None v old new = new ≡ old
PutsValueAt (Some k) v old new = (view_pairs new.0 ≡ insert (view k) v (view_pairs old.0)) × (new.1 ≡ None)

-- the pair is put at its place
abbrev pub PutsValue : Tree → Sorted → Sorted → Type 0
PutsValue v old new = PutsValueAt old.1 v old new
