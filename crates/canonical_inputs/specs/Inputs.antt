-- An input that is canonical already.
use Rattle.std.specs.Prelude.{ℕ, ◌≡◌, ◌≤◌, List, length}
use Rattle.ice_types.specs.declared.declarations.Shape.{Shape}
use Rattle.ice_types.specs.Tables.{Tables}
use Rattle.ice_encoding.specs.declared.limits.TheConstants.{LARGEST}
use Rattle.ice_encoding.specs.Graph.{Graph}
use Rattle.ice_encoding.specs.Flags.{all_slices}
use Rattle.ice_encoding.specs.Instances.{SpellsNumbered}
use Rattle.ice_encoding.specs.CanonicalGraph.{sliced, graph_bytes}

-- The input is the canonical encapsulation, in sliced format, of the graph that it holds, and within the limit.
abbrev pub IsOwnForm : Tables → Shape → List ℕ → Type 0
IsOwnForm t shape input = (g : Graph) × SpellsNumbered t all_slices shape input g × (input ≡ graph_bytes t shape sliced g) × (length input ≤ LARGEST)
