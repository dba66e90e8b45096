-- Values as results. (Ice manual, "Data Encoding for Class and Exception Types".)
use Rattle.std.specs.Prelude.{ℕ, List, length, Option, None, Some, nat_le, if◌then◌else◌}
use Rattle.ice_types.specs.declared.declarations.Shape.{Shape}
use Rattle.ice_types.specs.Tables.{Tables}
use Rattle.ice_encoding.specs.Graph.{Graph}
use Rattle.ice_encoding.specs.CanonicalGraph.{sliced, graph_bytes}
use Rattle.value_parts.specs.Shapes.{told_apart}
use Rattle.object_adapter.specs.declared.refusal.TheConstants.{LONGEST}

-- bytes, or none where results may not be so long
abbrev pub short : List ℕ → Option (List ℕ)
short bytes = if nat_le (length bytes) LONGEST then Some bytes else None

-- the canonical encapsulation of values of this shape, or none where results may not be so long
abbrev pub written : Tables → Shape → Graph → Option (List ℕ)
written t shape g = short (graph_bytes t (told_apart shape) sliced g)
