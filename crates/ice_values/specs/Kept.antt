-- The pairs of a dictionary that are read, in rising order of their keys.
use Rattle.std.specs.Prelude.{◌≡◌, false, List, Option, None, Some}
use Rattle.ice_encoding.specs.Tree.{Tree, Entries}
use Rattle.ice_encoding.specs.Order.{IsRising, AreBelow, has_key}
use Rattle.graph_arena.specs.declared.value.Value.{Value}
use Rattle.graph_arena.specs.View.{view, view_pairs}
use Rattle.ice_values.specs.declared.sorted.Kept.{Kept}
use Rattle.ice_values.specs.declared.sorted.Kept.TheVariants.{Rising, Scattered}

abbrev pub pairs_in : Kept → List (Value × Value)
pairs_in (Rising pairs) = pairs
pairs_in (Scattered map) = map.entries

abbrev pub kept_pairs : Kept → Entries
kept_pairs kept = view_pairs (pairs_in kept)

-- a list of pairs rises
abbrev pub Rises : Kept → Type 0
Rises (Rising pairs) = IsRising (view_pairs pairs)
Rises (Scattered map) = Unit {0}

-- the key is above those of a list, and it is none of those of a map
abbrev pub HasPlace : Kept → Tree → Type 0
HasPlace (Rising pairs) k = AreBelow (view_pairs pairs) k
HasPlace (Scattered map) k = has_key k (view_pairs map.entries) ≡ false

-- the same of a key that waits
abbrev pub HasPlaces : Kept → Option Value → Type 0
HasPlaces kept None = Rises kept
HasPlaces kept (Some k) = Rises kept × HasPlace kept (view k)
