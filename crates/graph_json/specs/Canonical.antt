-- The canonical notation of a graph: the instances that are reached, by first visit. Names of objects rise.
use Rattle.std.specs.Prelude.{List, [], ◌∷◌, codes}
use Rattle.hex.specs.Hex.{encode_lower}
use Rattle.serde_json.specs.Data.{Data, boolean, string, array, object, Items, no_items, item, no_members, put}
use Rattle.ice_types.specs.declared.declarations.Shape.{Shape}
use Rattle.ice_types.specs.Tables.{Tables}
use Rattle.ice_encoding.specs.Classes.{own_members}
use Rattle.ice_encoding.specs.Graph.{Slice, known, unknown, Graph}
use Rattle.ice_encoding.specs.CanonicalGraph.{id_of}
use Rattle.ice_encoding.specs.SameGraph.{form}
use Rattle.graph_json.specs.ValueNotation.{name_noted}
use Rattle.graph_json.specs.Contents.{content_noted}

abbrev pub items_noted : {A : Type 0} → (A → Data) → List A → Items
items_noted write [] = no_items
items_noted write (x ∷ xs) = item (write x) (items_noted write xs)

abbrev pub list_noted : {A : Type 0} → (A → Data) → List A → Data
list_noted write xs = array (items_noted write xs)

module _ (t : Tables) where
  abbrev pub slice_noted : Slice → Data
  slice_noted (known class content) = object (put (codes "members") (content_noted t (own_members t class) content)
      (put (codes "class") (string (id_of t (known class content))) no_members))
  slice_noted (unknown id bytes optionals table) = object (put (codes "table") (list_noted name_noted table)
      (put (codes "optionals") (boolean optionals)
      (put (codes "kept") (string id)
      (put (codes "bytes") (string (encode_lower bytes)) no_members))))

  abbrev pub instance_noted : List Slice → Data
  instance_noted slices = object (put (codes "slices") (list_noted slice_noted slices) no_members)

  -- the instances in the order of the list
  abbrev pub graph_noted : Shape → Graph → Data
  graph_noted shape g = object (put (codes "roots") (content_noted t shape g.roots)
      (put (codes "instances") (list_noted instance_noted g.instances) no_members))

  -- by first visit
  abbrev pub canonical_noted : Shape → Graph → Data
  canonical_noted shape g = graph_noted shape (form g)
