-- Which JSON notes a graph: the instances in a list, whose places are their names, and the roots.
use Rattle.std.specs.Prelude.{ℕ, ◌≡◌, List, [], ◌∷◌, Some, Ok, codes}
use Rattle.hex.specs.Hex.{decode_of}
use Rattle.serde_json.specs.Data as json
use Rattle.serde_json.specs.Data.{Data, boolean, string, array, object, Items, no_items, item}
use Rattle.serde_json.specs.Find.{get_member}
use Rattle.serde_json.specs.Events.{members_len}
use Rattle.ice_types.specs.declared.declarations.Shape.{Shape}
use Rattle.ice_types.specs.Tables.{Tables}
use Rattle.ice_encoding.specs.Classes.{class_named, own_members}
use Rattle.ice_encoding.specs.Graph.{Slice, known, unknown, Graph}
use Rattle.ice_encoding.specs.SameGraph.{Same}
use Rattle.ice_encoding.specs.TypedGraph.{OfType}
use Rattle.graph_json.specs.ValueNotation.{Noting, NotesName}
use Rattle.graph_json.specs.Contents.{NotesContent}

-- ---- objects and arrays

-- an object of so many names
abbrev pub HasNames : ℕ → Noting json.Members
HasNames count d found = (d ≡ object found) × (members_len found ≡ count)

-- the JSON at a name
abbrev pub Has : json.Members → List ℕ → Data → Type 0
Has found name d = get_member name found ≡ Some d

-- each item notes one of the list, in order
abbrev pub NotesEach : {A : Type 0} → Noting A → Items → List A → Type 0
NotesEach One no_items xs = xs ≡ []
NotesEach {A} One (item d ds) xs = (y : A) × (ys : List A) × (xs ≡ y ∷ ys) × One d y × NotesEach One ds ys

-- an array whose items note those of a list, in order
abbrev pub NotesList : {A : Type 0} → Noting A → Noting (List A)
NotesList One d xs = (ds : Items) × (d ≡ array ds) × NotesEach One ds xs

-- pairs of digits, in either case of letters
abbrev pub NotesBytes : Noting (List ℕ)
NotesBytes d bytes = (text : List ℕ) × (d ≡ string text) × (decode_of text ≡ Ok bytes)

-- ---- graphs

module _ (t : Tables) where
  -- A known slice has the type id of its class, and the members. An unknown one has its bytes, its type id, whether
  -- optional members stand in the bytes, and the names in its table.
  abbrev pub NotesSlice : Noting Slice
  NotesSlice d (known class content) = (found : json.Members) × HasNames 2 d found
      × (id : List ℕ) × Has found (codes "class") (string id) × (class_named t id ≡ Some class)
      × (inside : Data) × Has found (codes "members") inside × NotesContent t (own_members t class) inside content
  NotesSlice d (unknown id bytes optionals table) = (found : json.Members) × HasNames 4 d found
      × Has found (codes "kept") (string id) × Has found (codes "optionals") (boolean optionals)
      × (digits : Data) × Has found (codes "bytes") digits × NotesBytes digits bytes
      × (names : Data) × Has found (codes "table") names × NotesList NotesName names table

  -- `{"slices":[..]}`
  abbrev pub NotesInstance : Noting (List Slice)
  NotesInstance d slices = (found : json.Members) × HasNames 1 d found
      × (ds : Data) × Has found (codes "slices") ds × NotesList NotesSlice ds slices

  -- the graph as it is listed, with instances that nothing reaches
  abbrev pub NotesListed : Shape → Noting Graph
  NotesListed shape d g = (found : json.Members) × HasNames 2 d found
      × (ds : Data) × Has found (codes "instances") ds × NotesList NotesInstance ds g.instances
      × (inside : Data) × Has found (codes "roots") inside × NotesContent t shape inside g.roots

  -- a graph of the type is listed, which is the same but for the names of instances
  abbrev pub NotesGraph : Shape → Noting Graph
  NotesGraph shape d g = (k : Graph) × NotesListed shape d k × OfType t shape k × Same k g
