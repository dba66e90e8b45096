-- A sequence that is told item by item, as its items stand in canonical bytes.
use Rattle.std.specs.Prelude.{ℕ, ◌≡◌, ◌≤◌, ◌-◌, Bool, false, List, ◌++◌, length, codes, Some, Result, Ok, Err, slice_get}
use Rattle.serde_json.specs.Data.{Data}
use Rattle.serde_json.specs.Written.{comma_if, compact_text, items_text}
use Rattle.ice_types.specs.declared.kind.TypeRef.{TypeRef}
use Rattle.ice_types.specs.declared.kind.TypeRef.TheVariants as kinds
use Rattle.ice_types.specs.declared.declarations.SeqDecl.{SeqDecl}
use Rattle.ice_types.specs.declared.schema.TheConstants.{MOST_DEPTH}
use Rattle.ice_types.specs.Tables.{Tables}
use Rattle.ice_prims.specs.declared.fault.ReadFault.{ReadFault}
use Rattle.ice_prims.specs.declared.fault.ReadFault.TheVariants as faults
use Rattle.ice_prims.specs.Rest.{Rest}
use Rattle.ice_encoding.specs.declared.limits.TheConstants.{LARGEST}
use Rattle.ice_encoding.specs.Opening.{encapsulated_bytes}
use Rattle.ice_encoding.specs.Tree.{Tree, Trees}
use Rattle.ice_encoding.specs.Typed.{HasType, AllOf}
use Rattle.ice_encoding.specs.Writing.{written_each, as_number}
use Rattle.canonical_values.specs.Standing.{only_null, IsCanonical}
use Rattle.graph_arena.specs.declared.value.Value.{Value}
use Rattle.graph_arena.specs.View.{view}
use Rattle.graph_json.specs.CanonicalValues.{each_noted, notation_levels}

-- ---- which input is told so

-- a sequence whose items are of this type
pub record HasItems (t : Tables) (kind element : TypeRef) : Type 0 where
  pub at : ℕ
  pub row : SeqDecl
  pub is : kind ≡ kinds.Seq at
  pub declared : slice_get t.seqs at ≡ Some row
  pub of : element ≡ row.element

-- the input is the canonical encapsulation of a sequence with items of this type: of this content
pub record IsSequence (t : Tables) (kind : TypeRef) (input : List ℕ) (element : TypeRef) (content : List ℕ) : Type 0 where
  pub items : HasItems t kind element
  pub canonical : IsCanonical t kind content
  pub whole : input ≡ encapsulated_bytes content
  pub short : length input ≤ LARGEST

-- ---- items

-- an item of a sequence of values in which each reference is null: a value of the type that nests one level less
unfoldable pub IsItem : Tables → TypeRef → Tree → Type 0
IsItem t element v = HasType t only_null (MOST_DEPTH - 1) element v

-- its notation
unfoldable pub item_noted : Tables → TypeRef → Tree → Data
item_noted t element v = notation_levels t (MOST_DEPTH - 1) element v

-- the canonical bytes of the items, one after the other
abbrev pub each_bytes : Trees → List ℕ
each_bytes items = (written_each as_number items tt).0

-- these items stand in the bytes, and nothing behind them
pub record AreItems (t : Tables) (element : TypeRef) (items : Trees) (bytes : List ℕ) : Type 0 where
  pub typed : AllOf (IsItem t element) items
  pub are : bytes ≡ each_bytes items

-- this value stood first, and these bytes behind it; or memory ran out
abbrev pub TakesItem : Tree → List ℕ → Result Value ReadFault → Rest → Type 0
TakesItem v rest (Ok value) after = (view value ≡ v) × (after.bytes ≡ rest)
TakesItem v rest (Err fault) after = fault ≡ faults.Memory

-- ---- texts

-- the text of an item, behind a comma where one stands before it
abbrev pub item_text : Tables → TypeRef → Bool → Tree → List ℕ
item_text t element later v = comma_if later ++ compact_text (item_noted t element v)

-- the texts of items, likewise, and the end of their array
abbrev pub each_text : Tables → TypeRef → Bool → Trees → List ℕ
each_text t element later items = items_text later (each_noted (item_noted t element) items)

-- the line that tells the sequence of these items
abbrev pub sequence_text : Tables → TypeRef → Trees → List ℕ
sequence_text t element items = codes "{\"instances\":[],\"roots\":{\"$value\":[" ++ (each_text t element false items ++ codes "}}\n")
