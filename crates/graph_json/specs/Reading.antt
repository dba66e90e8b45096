-- The graph that JSON lists, None where it lists none.
use Rattle.std.specs.Prelude.{ℕ, ◌==◌, List, [], ◌∷◌, Option, None, Some, Result, Ok, Err, codes, option_map, option_and_then, if◌then◌else◌}
use Rattle.hex.specs.Hex.{decode_of}
use Rattle.serde_json.specs.Data as json
use Rattle.serde_json.specs.Data.{Items, no_items, item}
use Rattle.serde_json.specs.Find.{as_bool, as_str, as_array, as_object, get_member}
use Rattle.serde_json.specs.Events.{members_len}
use Rattle.ice_types.specs.declared.declarations.Shape.{Shape}
use Rattle.ice_types.specs.Tables.{Tables}
use Rattle.ice_encoding.specs.OptionalMembers.{Members}
use Rattle.ice_encoding.specs.Classes.{class_named, own_members}
use Rattle.ice_encoding.specs.Graph.{Slice, known, unknown, Graph}
use Rattle.graph_json.specs.ReadingValues.{Read, name_of, whole}
use Rattle.graph_json.specs.Contents.{noted_content}

-- ---- objects and arrays

-- from an object of so many names
abbrev pub of_object : {A : Type 0} → ℕ → (json.Members → Option A) → Read A
of_object count read d = option_and_then (whole count read) (as_object d)

-- from the JSON at a name
abbrev pub at_name : {A : Type 0} → List ℕ → Read A → json.Members → Option A
at_name name read found = option_and_then read (get_member name found)

abbrev pub items_of : {A : Type 0} → Read A → Items → Option (List A)
items_of read no_items = Some []
items_of read (item d ds) = option_and_then (λ x. option_map (λ xs. x ∷ xs) (items_of read ds)) (read d)

abbrev pub list_of : {A : Type 0} → Read A → Read (List A)
list_of read d = option_and_then (items_of read) (as_array d)

abbrev pub decoded : {E : Type 0} → Result (List ℕ) E → Option (List ℕ)
decoded (Ok bytes) = Some bytes
decoded (Err e) = None

abbrev pub bytes_of : Read (List ℕ)
bytes_of d = option_and_then (λ text. decoded (decode_of text)) (as_str d)

-- ---- graphs

-- an unknown slice
abbrev pub unknown_in : json.Members → Option Slice
unknown_in found = option_and_then (λ bytes. option_and_then (λ id. option_and_then (λ optionals.
    option_map (unknown id bytes optionals)
    (at_name (codes "table") (list_of name_of) found))
    (at_name (codes "optionals") as_bool found))
    (at_name (codes "kept") as_str found))
    (at_name (codes "bytes") bytes_of found)

abbrev pub with_roots : List (List Slice) → Members → Graph
with_roots instances roots = record { roots = roots; instances = instances }

module _ (t : Tables) where
  -- the class with this type id
  abbrev pub class_of : Read ℕ
  class_of d = option_and_then (class_named t) (as_str d)

  -- a slice of a class of the schema
  abbrev pub known_in : json.Members → Option Slice
  known_in found = option_and_then (λ class. option_map (known class)
      (at_name (codes "members") (noted_content t (own_members t class)) found))
      (at_name (codes "class") class_of found)

  -- a known slice has two names, and an unknown one four
  abbrev pub slice_in : json.Members → Option Slice
  slice_in found = if members_len found == 2 then known_in found else whole 4 unknown_in found

  -- a slice: known, or else unknown
  abbrev pub slice_of : Read Slice
  slice_of d = option_and_then slice_in (as_object d)

  -- the slices of an instance
  abbrev pub instance_of : Read (List Slice)
  instance_of = of_object 1 (at_name (codes "slices") (list_of slice_of))

  -- the graph that an object lists
  abbrev pub graph_in : Shape → json.Members → Option Graph
  graph_in shape found = option_and_then (λ instances. option_map (with_roots instances)
      (at_name (codes "roots") (noted_content t shape) found))
      (at_name (codes "instances") (list_of instance_of) found)

  -- the graph that JSON lists, None where it lists none
  abbrev pub listed_graph : Shape → Read Graph
  listed_graph shape = of_object 2 (graph_in shape)
