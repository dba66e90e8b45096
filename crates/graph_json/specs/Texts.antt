-- Texts of graphs: the one that is written for a graph, and what comes of one that is read.
use Rattle.std.specs.Prelude.{ℕ, ◌≡◌, ◌<◌, ◌≤◌, List, length, codes, Option, Some, Result, Ok, Err, option_and_then}
use Rattle.std.specs.Str.{IsUtf8}
use Rattle.serde_json.specs.Data.{Data, Items, depth}
use Rattle.serde_json.specs.Find.{as_array, as_object, get_member}
use Rattle.serde_json.specs.Events.{items_len}
use Rattle.serde_json.specs.Read.{max_depth, read}
use Rattle.serde_json.specs.Written.{compact_text}
use Rattle.ice_types.specs.declared.declarations.Shape.{Shape}
use Rattle.ice_types.specs.Fits.{AreOf}
use Rattle.ice_types.specs.Tables.{Tables}
use Rattle.ice_encoding.specs.Graph.{Graph}
use Rattle.ice_encoding.specs.Instances.{most_instances}
use Rattle.ice_encoding.specs.TypedGraph.{OfType}
use Rattle.graph_json.specs.declared.fault.JsonFault.{JsonFault}
use Rattle.graph_json.specs.declared.fault.JsonFault.TheVariants as faults
use Rattle.graph_json.specs.declared.fault.JsonKind.{JsonKind}
use Rattle.graph_json.specs.declared.fault.JsonKind.TheVariants as kinds
use Rattle.graph_json.specs.declared.text.TheConstants.{MOST_TEXT}
use Rattle.graph_json.specs.declared.tree.Json.{Json}
use Rattle.graph_json.specs.View.{view}
use Rattle.graph_json.specs.Notation.{NotesGraph}
use Rattle.graph_json.specs.Reading.{listed_graph}
use Rattle.graph_json.specs.Canonical.{canonical_noted}

-- the kind's word
abbrev pub kind_name : JsonKind → List ℕ
kind_name kinds.TooLong = codes "TooLong"
kind_name kinds.NotJson = codes "NotJson"
kind_name kinds.TooMany = codes "TooMany"
kind_name kinds.Misfit = codes "Misfit"

-- ---- written

-- the text of a graph, without blanks
abbrev pub graph_text : Tables → Shape → Graph → List ℕ
graph_text t shape g = compact_text (canonical_noted t shape g)

-- the text is that of the data, without blanks, and reads as it where it does not nest too deep
pub record IsText (text : List ℕ) (d : Data) : Type 0 where
  pub is : text ≡ compact_text d
  pub utf8 : IsUtf8 text
  pub reads : depth d ≤ max_depth → read text ≡ Some d

-- each of the members is of a type of the tables, which nests at most a hundred deep
abbrev pub AreNotable : Tables → Shape → Type 0
AreNotable t shape = AreOf t shape.required × AreOf t shape.optional

-- ---- read

-- the text is UTF-8, and reads as this
abbrev pub IsJson : List ℕ → Data → Type 0
IsJson text d = IsUtf8 text × (read text ≡ Some d)

-- the JSON of a text that is short enough, or why there is none
abbrev pub ReadsJson : List ℕ → Result Json JsonFault → Type 0
ReadsJson text (Ok json) = (length text ≤ MOST_TEXT) × IsJson text (view json)
ReadsJson text (Err (faults.Refused kinds.TooLong)) = MOST_TEXT < length text
ReadsJson text (Err (faults.Refused kinds.NotJson)) = (length text ≤ MOST_TEXT) × ((d : Data) → IsJson text d → ⊥)
ReadsJson text (Err (faults.Refused kinds.TooMany)) = ⊥
ReadsJson text (Err (faults.Refused kinds.Misfit)) = ⊥
ReadsJson text (Err faults.Memory) = Unit {0}

-- the text notes a graph
abbrev pub NotesText : Tables → Shape → List ℕ → Graph → Type 0
NotesText t shape text g = (d : Data) × IsJson text d × NotesGraph t shape d g

-- the items of the array of instances of an object
abbrev pub listed_in : Data → Option Items
listed_in d = option_and_then as_array (option_and_then (get_member (codes "instances")) (as_object d))

-- more are listed than a text may list, those that nothing reaches among them
abbrev pub ListsTooMany : Data → Type 0
ListsTooMany d = (ds : Items) × (listed_in d ≡ Some ds) × (most_instances < items_len ds)

-- the text is short enough and reads as JSON, which goes on so
abbrev pub WithJson : List ℕ → (Data → Type 0) → Type 0
WithJson text Next = (length text ≤ MOST_TEXT) × (d : Data) × IsJson text d × Next d

-- the text lists this graph, which is of the type, with no more instances than it may
abbrev pub Lists : Tables → Shape → List ℕ → Graph → Type 0
Lists t shape text g = WithJson text (λ d. (ListsTooMany d → ⊥) × (listed_graph t shape d ≡ Some g) × OfType t shape g)

-- why it lists none: the first of these
abbrev pub IsRefused : Tables → Shape → List ℕ → JsonKind → Type 0
IsRefused t shape text kinds.TooLong = MOST_TEXT < length text
IsRefused t shape text kinds.NotJson = (length text ≤ MOST_TEXT) × ((d : Data) → IsJson text d → ⊥)
IsRefused t shape text kinds.TooMany = WithJson text ListsTooMany
IsRefused t shape text kinds.Misfit = WithJson text (λ d. (ListsTooMany d → ⊥) × ((g : Graph) → listed_graph t shape d ≡ Some g → OfType t shape g → ⊥))

-- the graph that the text lists, or why there is none
abbrev pub Parses : Tables → Shape → List ℕ → Result Graph JsonFault → Type 0
Parses t shape text (Ok g) = Lists t shape text g
Parses t shape text (Err (faults.Refused kind)) = IsRefused t shape text kind
Parses t shape text (Err faults.Memory) = Unit {0}
