-- What the definitions of graphs answer at inputs that are written out.
use Rattle.std.proofs.Common.{◌≡◌, ℕ, List, [], ◌∷◌, ◌++◌, true, false, Ok, Some, None, Result, refl, codes}
use Rattle.std.specs.Prelude.{pos}
use Rattle.std.specs.Str.{is_utf8, chars}
use lib.Utf8.{encode}
use Rattle.std.specs.Fmt.{digits}
use Rattle.ice_types.specs.Measures.{measure}
use Rattle.ice_types.specs.declared.kind.TypeRef.{TypeRef}
use Rattle.ice_types.specs.declared.kind.TypeRef.TheVariants as kinds
use Rattle.ice_types.specs.declared.declarations.Shape.{Shape}
use Rattle.ice_types.specs.Tables.{Tables, no_types}
use Rattle.ice_prims.specs.declared.fault.Fault.{Fault}
use Rattle.ice_prims.specs.declared.fault.Kind.{Kind}
use Rattle.ice_prims.specs.declared.fault.Kind.TheVariants as faults
use Rattle.ice_prims.specs.Rest.{fault, whole}
use Rattle.ice_encoding.specs.Opening.{encapsulated_bytes}
use Rattle.ice_encoding.specs.Tree.{short, int, byte, sequence, struct, text, reference, none, tree}
use Rattle.ice_encoding.specs.OptionalMembers.{with_optional, content_at}
use Rattle.ice_encoding.specs.Graph.{Slice, known, unknown, Graph}
use Rattle.ice_encoding.specs.References.{opening}
use Rattle.ice_encoding.specs.Flags.{Reach, all_slices, known_classes}
use Rattle.ice_encoding.specs.Instances.{most_instances, instances, graph_at, numbered_at}
use Rattle.ice_encoding.specs.Visiting.{most, order}
use Rattle.ice_encoding.specs.SameGraph.{form}
use Rattle.ice_encoding.specs.CanonicalGraph.{sliced, compact, canonical_graph, graph_bytes}
use Rattle.ice_encoding.specs.Reopening.{reopened}
use Rattle.ice_encoding.proofs.SampleClasses.{always, tagged, classes, node_id, point_id, values, to, node}

-- ---- the types

-- a content of one value
abbrev one : TypeRef → Shape
one kind = record { required = always kind ∷ []; optional = [] }

abbrev tables : Tables
tables = record no_types { seqs = record { id = codes "::M::Bytes"; element = kinds.Byte } ∷ []; classes = classes }

-- B alone
abbrev fewer : Tables
fewer = record no_types { classes = record { id = codes "::M::B"; base = None; compact = None; members = always kinds.Int ∷ [] } ∷ [] }

-- class X { optional(1) string s; optional(2) Pair p; optional(3) Bytes b; optional(4) Texts q; optional(5) X x; }
abbrev optionals : Tables
optionals = record no_types {
  seqs = record { id = codes "::Bytes"; element = kinds.Byte } ∷ record { id = codes "::Texts"; element = kinds.Text } ∷ [];
  structs = record { id = codes "::Pair"; members = always kinds.Short ∷ always kinds.Short ∷ [] } ∷ [];
  classes = record { id = codes "::X"; base = None; compact = None; members = tagged 1 kinds.Text ∷ tagged 2 (kinds.Struct 0) ∷ tagged 3 (kinds.Seq 0) ∷ tagged 4 (kinds.Seq 1) ∷ tagged 5 (kinds.Class (Some 0)) ∷ [] } ∷ [];
}

-- class N(4) { int v; N next; }
abbrev numbered : Tables
numbered = record no_types { classes = record { id = codes "::M::N"; base = None; compact = Some 4; members = always kinds.Int ∷ always (kinds.Class (Some 0)) ∷ [] } ∷ [] }

-- type ids as texts

abbrev option_id : List ℕ
option_id = 6 ∷ codes "::M::O"

abbrev base_id : List ℕ
base_id = 6 ∷ codes "::M::B"

abbrev derived_id : List ℕ
derived_id = 6 ∷ codes "::M::D"

abbrev two_id : List ℕ
two_id = 6 ∷ codes "::M::T"

abbrev short_id : List ℕ
short_id = 3 ∷ codes "::X"

abbrev other_id : List ℕ
other_id = 3 ∷ codes "::Y"

-- ---- what is read

-- A content in its encapsulation: its first byte is at place 6.
abbrev read_to : Reach → Tables → TypeRef → List ℕ → Result Graph Fault
read_to reach t kind content = numbered_at t reach (one kind) (whole (encapsulated_bytes content))

abbrev read : Tables → TypeRef → List ℕ → Result Graph Fault
read = read_to all_slices

abbrev graph : List (List Slice) → Graph
graph is = record { roots = values (to 0); instances = is }

-- a node that has no next
abbrev leaf : ℕ → List Slice
leaf v = known 0 (values (tree (int (pos v)) (tree (reference None) none))) ∷ []

-- a graph whose root is instance 0
abbrev reads : Tables → TypeRef → List ℕ → List (List Slice) → Type 0
reads t kind content is = read t kind content ≡ Ok (graph is)

-- the first fault
abbrev breaks : Tables → TypeRef → List ℕ → ℕ → Kind → Type 0
breaks t kind content place what = read t kind content ≡ fault place what

-- ---- instances

-- byte by byte: a node that is its own next
byte_by_byte : numbered_at tables all_slices (one (kinds.Class (Some 0))) (whole (26 ∷ 0 ∷ 0 ∷ 0 ∷ 1 ∷ 1 ∷ 1 ∷ 57 ∷ 6 ∷ 58 ∷ 58 ∷ 77 ∷ 58 ∷ 58 ∷ 78 ∷ 9 ∷ 0 ∷ 0 ∷ 0 ∷ 7 ∷ 0 ∷ 0 ∷ 0 ∷ 1 ∷ 1 ∷ 2 ∷ [])) ≡ Ok (graph (node 7 0 ∷ []))
unfolding graph_at most_instances measure is_utf8 chars encode
byte_by_byte = refl

-- the same
itself : reads tables (kinds.Class (Some 0)) (1 ∷ 57 ∷ node_id ++ 9 ∷ 0 ∷ 0 ∷ 0 ∷ 7 ∷ 0 ∷ 0 ∷ 0 ∷ 1 ∷ 1 ∷ 2 ∷ []) (node 7 0 ∷ [])
unfolding graph_at most_instances measure is_utf8 chars encode
itself = refl

-- the same in compact format
itself_compact : reads tables (kinds.Class (Some 0)) (1 ∷ 33 ∷ node_id ++ 7 ∷ 0 ∷ 0 ∷ 0 ∷ 2 ∷ []) (node 7 0 ∷ [])
unfolding graph_at most_instances measure is_utf8 chars encode
itself_compact = refl

-- two nodes, each the other's next; the type id of the second is an index
two_nodes : reads tables (kinds.Class (Some 0)) (1 ∷ 57 ∷ node_id ++ 9 ∷ 0 ∷ 0 ∷ 0 ∷ 1 ∷ 0 ∷ 0 ∷ 0 ∷ 1 ∷ 1 ∷ 1 ∷ 58 ∷ 1 ∷ 9 ∷ 0 ∷ 0 ∷ 0 ∷ 2 ∷ 0 ∷ 0 ∷ 0 ∷ 1 ∷ 1 ∷ 2 ∷ []) (node 1 1 ∷ node 2 0 ∷ [])
unfolding graph_at most_instances measure is_utf8 chars encode
two_nodes = refl

-- a D with b 1, d `x` and other a B with b 2
with_base : reads tables (kinds.Class (Some 3)) (1 ∷ 25 ∷ derived_id ++ 7 ∷ 0 ∷ 0 ∷ 0 ∷ 1 ∷ 120 ∷ 1 ∷ 1 ∷ 1 ∷ 49 ∷ base_id ++ 8 ∷ 0 ∷ 0 ∷ 0 ∷ 2 ∷ 0 ∷ 0 ∷ 0 ∷ 50 ∷ 2 ∷ 8 ∷ 0 ∷ 0 ∷ 0 ∷ 1 ∷ 0 ∷ 0 ∷ 0 ∷ []) ((known 4 (values (tree (text (codes "x")) (to 1))) ∷ known 3 (values (tree (int (pos 1)) none)) ∷ []) ∷ (known 3 (values (tree (int (pos 2)) none)) ∷ []) ∷ [])
unfolding graph_at most_instances measure is_utf8 chars encode
with_base = refl

-- the same where D is not known: its slice is kept
unknown_slice : reads fewer (kinds.Class (Some 0)) (1 ∷ 25 ∷ derived_id ++ 7 ∷ 0 ∷ 0 ∷ 0 ∷ 1 ∷ 120 ∷ 1 ∷ 1 ∷ 1 ∷ 49 ∷ base_id ++ 8 ∷ 0 ∷ 0 ∷ 0 ∷ 2 ∷ 0 ∷ 0 ∷ 0 ∷ 50 ∷ 2 ∷ 8 ∷ 0 ∷ 0 ∷ 0 ∷ 1 ∷ 0 ∷ 0 ∷ 0 ∷ []) ((unknown (codes "::M::D") (1 ∷ 120 ∷ 1 ∷ []) false (1 ∷ []) ∷ known 0 (values (tree (int (pos 1)) none)) ∷ []) ∷ (known 0 (values (tree (int (pos 2)) none)) ∷ []) ∷ [])
unfolding graph_at most_instances measure is_utf8 chars encode
unknown_slice = refl

-- an instance of unknown slices alone
unknown_alone : reads fewer (kinds.Class None) (1 ∷ 53 ∷ other_id ++ 6 ∷ 0 ∷ 0 ∷ 0 ∷ 7 ∷ 255 ∷ []) ((unknown (codes "::Y") (7 ∷ []) true [] ∷ []) ∷ [])
unfolding graph_at most_instances measure is_utf8 chars encode
unknown_alone = refl

-- a D in compact format
compact_base : reads tables (kinds.Class (Some 3)) (1 ∷ 1 ∷ derived_id ++ 1 ∷ 120 ∷ 0 ∷ 32 ∷ 1 ∷ 0 ∷ 0 ∷ 0 ∷ []) ((known 4 (values (tree (text (codes "x")) (tree (reference None) none))) ∷ known 3 (values (tree (int (pos 1)) none)) ∷ []) ∷ [])
unfolding graph_at most_instances measure is_utf8 chars encode
compact_base = refl

-- null where any class may stand
null_anywhere : read tables (kinds.Class None) (0 ∷ []) ≡ Ok (record { roots = values (tree (reference None) none); instances = [] })
unfolding graph_at most_instances measure is_utf8 chars encode
null_anywhere = refl

-- names go by where instances begin, and not by where a place stands: a is the second in the table
two_places : reads tables (kinds.Class (Some 5)) (1 ∷ 57 ∷ two_id ++ 6 ∷ 0 ∷ 0 ∷ 0 ∷ 2 ∷ 1 ∷ 2 ∷ 1 ∷ 49 ∷ node_id ++ 9 ∷ 0 ∷ 0 ∷ 0 ∷ 1 ∷ 0 ∷ 0 ∷ 0 ∷ 0 ∷ 1 ∷ 50 ∷ 2 ∷ 9 ∷ 0 ∷ 0 ∷ 0 ∷ 2 ∷ 0 ∷ 0 ∷ 0 ∷ 0 ∷ []) ((known 5 (values (tree (reference (Some 2)) (to 1))) ∷ []) ∷ leaf 1 ∷ leaf 2 ∷ [])
unfolding graph_at most_instances measure is_utf8 chars encode
two_places = refl

-- an unknown slice whose table names its own instance
unknown_itself : reads fewer (kinds.Class None) (1 ∷ 57 ∷ other_id ++ 5 ∷ 0 ∷ 0 ∷ 0 ∷ 1 ∷ 1 ∷ 2 ∷ []) ((unknown (codes "::Y") (1 ∷ []) false (0 ∷ []) ∷ []) ∷ [])
unfolding graph_at most_instances measure is_utf8 chars encode
unknown_itself = refl

-- a table may name an instance twice
table_twice : reads tables (kinds.Class (Some 0)) (1 ∷ 57 ∷ node_id ++ 9 ∷ 0 ∷ 0 ∷ 0 ∷ 7 ∷ 0 ∷ 0 ∷ 0 ∷ 1 ∷ 2 ∷ 2 ∷ 2 ∷ []) (node 7 0 ∷ [])
unfolding graph_at most_instances measure is_utf8 chars encode
table_twice = refl

-- a table of size 0
empty_table : reads tables (kinds.Class (Some 0)) (1 ∷ 57 ∷ node_id ++ 9 ∷ 0 ∷ 0 ∷ 0 ∷ 7 ∷ 0 ∷ 0 ∷ 0 ∷ 0 ∷ 0 ∷ []) ((known 0 (values (tree (int (pos 7)) (tree (reference None) none))) ∷ []) ∷ [])
unfolding graph_at most_instances measure is_utf8 chars encode
empty_table = refl

-- ---- flags

-- bit 6 comes before a type id that is a number
flags_first : breaks optionals (kinds.Class (Some 0)) (1 ∷ 67 ∷ short_id ++ []) 7 faults.BadFlags
unfolding graph_at most_instances measure is_utf8 chars encode
flags_first = refl

-- a first slice without a type id
no_id_first : breaks tables (kinds.Class (Some 0)) (1 ∷ 48 ∷ 4 ∷ 0 ∷ 0 ∷ 0 ∷ []) 7 faults.BadFlags
unfolding graph_at most_instances measure is_utf8 chars encode
no_id_first = refl

-- a table without a size
table_without_size : breaks tables (kinds.Class (Some 0)) (1 ∷ 41 ∷ node_id ++ 9 ∷ 0 ∷ 0 ∷ 0 ∷ 7 ∷ 0 ∷ 0 ∷ 0 ∷ 1 ∷ 1 ∷ 2 ∷ []) 7 faults.BadFlags
unfolding graph_at most_instances measure is_utf8 chars encode
table_without_size = refl

-- a size behind a slice without one
size_later : breaks tables (kinds.Class (Some 3)) (1 ∷ 1 ∷ derived_id ++ 1 ∷ 120 ∷ 0 ∷ 48 ∷ 5 ∷ 0 ∷ 0 ∷ 0 ∷ []) 18 faults.BadFlags
unfolding graph_at most_instances measure is_utf8 chars encode
size_later = refl

-- no size behind a slice with one
no_size_later : breaks tables (kinds.Class (Some 3)) (1 ∷ 17 ∷ derived_id ++ 7 ∷ 0 ∷ 0 ∷ 0 ∷ 1 ∷ 120 ∷ 0 ∷ 32 ∷ 1 ∷ 0 ∷ 0 ∷ 0 ∷ []) 22 faults.BadFlags
unfolding graph_at most_instances measure is_utf8 chars encode
no_size_later = refl

-- ---- type ids

-- no byte of flags
no_flags : breaks tables (kinds.Class None) (1 ∷ []) 7 faults.Short
unfolding graph_at most_instances measure is_utf8 chars encode
no_flags = refl

-- a text that goes past the content
id_past : breaks tables (kinds.Class None) (1 ∷ 49 ∷ 6 ∷ 58 ∷ []) 9 faults.Short
unfolding graph_at most_instances measure is_utf8 chars encode
id_past = refl

-- a type id that is no text
bad_text : breaks tables (kinds.Class (Some 0)) (1 ∷ 49 ∷ 1 ∷ 255 ∷ 4 ∷ 0 ∷ 0 ∷ 0 ∷ []) 9 faults.BadText
unfolding graph_at most_instances measure is_utf8 chars encode
bad_text = refl

-- an index that no type id has
no_such_id : breaks tables (kinds.Class (Some 0)) (1 ∷ 57 ∷ node_id ++ 9 ∷ 0 ∷ 0 ∷ 0 ∷ 1 ∷ 0 ∷ 0 ∷ 0 ∷ 1 ∷ 1 ∷ 1 ∷ 58 ∷ 2 ∷ 9 ∷ 0 ∷ 0 ∷ 0 ∷ 2 ∷ 0 ∷ 0 ∷ 0 ∷ 1 ∷ 1 ∷ 2 ∷ []) 27 faults.BadTypeId
unfolding graph_at most_instances measure is_utf8 chars encode
no_such_id = refl

-- the index 0
index_zero : breaks tables (kinds.Class (Some 0)) (1 ∷ 58 ∷ 0 ∷ 4 ∷ 0 ∷ 0 ∷ 0 ∷ []) 8 faults.BadTypeId
unfolding graph_at most_instances measure is_utf8 chars encode
index_zero = refl

-- behind D another class than its base, though the last flag is wrong too
wrong_base : breaks tables (kinds.Class (Some 3)) (1 ∷ 25 ∷ derived_id ++ 7 ∷ 0 ∷ 0 ∷ 0 ∷ 1 ∷ 120 ∷ 0 ∷ 0 ∷ 17 ∷ point_id ++ 8 ∷ 0 ∷ 0 ∷ 0 ∷ 2 ∷ 0 ∷ 0 ∷ 0 ∷ []) 24 faults.WrongBase
unfolding graph_at most_instances measure is_utf8 chars encode
wrong_base = refl

-- a D in compact format where it is not known
compact_unknown : breaks fewer (kinds.Class (Some 0)) (1 ∷ 1 ∷ derived_id ++ 1 ∷ 120 ∷ 0 ∷ 32 ∷ 1 ∷ 0 ∷ 0 ∷ 0 ∷ []) 8 faults.UnknownClass
unfolding graph_at most_instances measure is_utf8 chars encode
compact_unknown = refl

-- ---- compact ids: a class that has one may stand under it, under its type id, and under the index of that

-- a node that is its own next, under the number
by_number : reads numbered (kinds.Class (Some 0)) (1 ∷ 59 ∷ 4 ∷ 9 ∷ 0 ∷ 0 ∷ 0 ∷ 7 ∷ 0 ∷ 0 ∷ 0 ∷ 1 ∷ 1 ∷ 2 ∷ []) (node 7 0 ∷ [])
unfolding graph_at most_instances measure is_utf8 chars encode digits
by_number = refl

-- under the type id
by_type_id : reads numbered (kinds.Class (Some 0)) (1 ∷ 57 ∷ node_id ++ 9 ∷ 0 ∷ 0 ∷ 0 ∷ 7 ∷ 0 ∷ 0 ∷ 0 ∷ 1 ∷ 1 ∷ 2 ∷ []) (node 7 0 ∷ [])
unfolding graph_at most_instances measure is_utf8 chars encode digits
by_type_id = refl

-- under the number in compact format
by_number_compact : reads numbered (kinds.Class (Some 0)) (1 ∷ 35 ∷ 4 ∷ 7 ∷ 0 ∷ 0 ∷ 0 ∷ 2 ∷ []) (node 7 0 ∷ [])
unfolding graph_at most_instances measure is_utf8 chars encode digits
by_number_compact = refl

-- a number takes no index
no_index : breaks numbered (kinds.Class (Some 0)) (1 ∷ 59 ∷ 4 ∷ 9 ∷ 0 ∷ 0 ∷ 0 ∷ 1 ∷ 0 ∷ 0 ∷ 0 ∷ 1 ∷ 1 ∷ 1 ∷ 58 ∷ 1 ∷ 9 ∷ 0 ∷ 0 ∷ 0 ∷ 2 ∷ 0 ∷ 0 ∷ 0 ∷ 1 ∷ 1 ∷ 2 ∷ []) 21 faults.BadTypeId
unfolding graph_at most_instances measure is_utf8 chars encode digits
no_index = refl

-- a number that no class has is kept as `#4`
unknown_number : reads tables (kinds.Class None) (1 ∷ 59 ∷ 4 ∷ 9 ∷ 0 ∷ 0 ∷ 0 ∷ 7 ∷ 0 ∷ 0 ∷ 0 ∷ 1 ∷ 1 ∷ 2 ∷ []) ((unknown (codes "#4") (7 ∷ 0 ∷ 0 ∷ 0 ∷ 1 ∷ []) false (0 ∷ []) ∷ []) ∷ [])
unfolding graph_at most_instances measure is_utf8 chars encode digits
unknown_number = refl

-- and is refused without a size
compact_number : breaks tables (kinds.Class None) (1 ∷ 35 ∷ 4 ∷ 7 ∷ 0 ∷ 0 ∷ 0 ∷ 2 ∷ []) 8 faults.UnknownClass
unfolding graph_at most_instances measure is_utf8 chars encode digits
compact_number = refl

-- a string that begins with `#` is no type id
hash_text : breaks tables (kinds.Class None) (1 ∷ 49 ∷ 2 ∷ 35 ∷ 52 ∷ 4 ∷ 0 ∷ 0 ∷ 0 ∷ []) 8 faults.BadTypeId
unfolding graph_at most_instances measure is_utf8 chars encode digits
hash_text = refl

-- the flag of the last slice is tested behind the number
number_not_last : breaks numbered (kinds.Class (Some 0)) (1 ∷ 27 ∷ 4 ∷ 9 ∷ 0 ∷ 0 ∷ 0 ∷ 7 ∷ 0 ∷ 0 ∷ 0 ∷ 1 ∷ 1 ∷ 2 ∷ []) 7 faults.BadLast
unfolding graph_at most_instances measure is_utf8 chars encode digits
number_not_last = refl

-- ---- the flag of the last slice

-- no flag of the last slice on a class without a base
not_last : breaks tables (kinds.Class (Some 0)) (1 ∷ 25 ∷ node_id ++ 9 ∷ 0 ∷ 0 ∷ 0 ∷ 7 ∷ 0 ∷ 0 ∷ 0 ∷ 1 ∷ 1 ∷ 2 ∷ []) 7 faults.BadLast
unfolding graph_at most_instances measure is_utf8 chars encode
not_last = refl

-- the flag of the last slice on a class with a base
last_with_base : breaks tables (kinds.Class (Some 3)) (1 ∷ 49 ∷ derived_id ++ 7 ∷ 0 ∷ 0 ∷ 0 ∷ 1 ∷ 120 ∷ 0 ∷ []) 7 faults.BadLast
unfolding graph_at most_instances measure is_utf8 chars encode
last_with_base = refl

-- the type id is read before the flag of the last slice is tested
text_before_last : breaks optionals (kinds.Class (Some 0)) (1 ∷ 17 ∷ 1 ∷ 255 ∷ 4 ∷ 0 ∷ 0 ∷ 0 ∷ []) 9 faults.BadText
unfolding graph_at most_instances measure is_utf8 chars encode
text_before_last = refl

-- behind a class that has a base the content may not end
ends_with_base : breaks tables (kinds.Class (Some 3)) (1 ∷ 17 ∷ derived_id ++ 7 ∷ 0 ∷ 0 ∷ 0 ∷ 1 ∷ 120 ∷ 0 ∷ []) 22 faults.Short
unfolding graph_at most_instances measure is_utf8 chars encode
ends_with_base = refl

-- ---- sizes and members

-- a slice size below 4
slice_size : breaks tables (kinds.Class (Some 0)) (1 ∷ 57 ∷ node_id ++ 3 ∷ 0 ∷ 0 ∷ 0 ∷ 7 ∷ 0 ∷ 0 ∷ 0 ∷ 1 ∷ 1 ∷ 2 ∷ []) 15 faults.BadSize
unfolding graph_at most_instances measure is_utf8 chars encode
slice_size = refl

-- a slice size below 0
negative_size : breaks tables (kinds.Class (Some 0)) (1 ∷ 49 ∷ node_id ++ 255 ∷ 255 ∷ 255 ∷ 255 ∷ []) 15 faults.BadSize
unfolding graph_at most_instances measure is_utf8 chars encode
negative_size = refl

-- a slice size that passes the bound
slice_too_long : breaks tables (kinds.Class (Some 0)) (1 ∷ 57 ∷ node_id ++ 255 ∷ 0 ∷ 0 ∷ 0 ∷ 7 ∷ 0 ∷ 0 ∷ 0 ∷ 1 ∷ 1 ∷ 2 ∷ []) 15 faults.Short
unfolding graph_at most_instances measure is_utf8 chars encode
slice_too_long = refl

-- a slice size that counts more than the members
slice_left : breaks tables (kinds.Class (Some 0)) (1 ∷ 57 ∷ node_id ++ 10 ∷ 0 ∷ 0 ∷ 0 ∷ 7 ∷ 0 ∷ 0 ∷ 0 ∷ 1 ∷ 1 ∷ 2 ∷ []) 24 faults.LeftOver
unfolding graph_at most_instances measure is_utf8 chars encode
slice_left = refl

-- a slice size that counts less
slice_short : breaks tables (kinds.Class (Some 1)) (1 ∷ 49 ∷ point_id ++ 7 ∷ 0 ∷ 0 ∷ 0 ∷ 5 ∷ 0 ∷ 0 ∷ 0 ∷ []) 19 faults.Short
unfolding graph_at most_instances measure is_utf8 chars encode
slice_short = refl

-- what is kept does not end with the end marker
unknown_no_marker : breaks fewer (kinds.Class (Some 0)) (1 ∷ 53 ∷ other_id ++ 6 ∷ 0 ∷ 0 ∷ 0 ∷ 7 ∷ 8 ∷ []) 17 faults.BadTag
unfolding graph_at most_instances measure is_utf8 chars encode
unknown_no_marker = refl

-- what is kept has no room for the end marker
unknown_empty : breaks fewer (kinds.Class (Some 0)) (1 ∷ 53 ∷ other_id ++ 4 ∷ 0 ∷ 0 ∷ 0 ∷ []) 16 faults.Short
unfolding graph_at most_instances measure is_utf8 chars encode
unknown_empty = refl

-- ---- references

-- an instance that has not begun
not_begun : breaks tables (kinds.Class (Some 0)) (1 ∷ 57 ∷ node_id ++ 9 ∷ 0 ∷ 0 ∷ 0 ∷ 7 ∷ 0 ∷ 0 ∷ 0 ∷ 1 ∷ 1 ∷ 3 ∷ []) 25 faults.BadReference
unfolding graph_at most_instances measure is_utf8 chars encode
not_begun = refl

-- at a root
not_begun_root : breaks tables (kinds.Class None) (2 ∷ []) 6 faults.BadReference
unfolding graph_at most_instances measure is_utf8 chars encode
not_begun_root = refl

-- the second place in a table of one
past_the_end : breaks tables (kinds.Class (Some 0)) (1 ∷ 57 ∷ node_id ++ 9 ∷ 0 ∷ 0 ∷ 0 ∷ 7 ∷ 0 ∷ 0 ∷ 0 ∷ 2 ∷ 1 ∷ 2 ∷ []) 23 faults.BadReference
unfolding graph_at most_instances measure is_utf8 chars encode
past_the_end = refl

-- a place where there is no table
no_table : breaks tables (kinds.Class (Some 0)) (1 ∷ 49 ∷ node_id ++ 9 ∷ 0 ∷ 0 ∷ 0 ∷ 7 ∷ 0 ∷ 0 ∷ 0 ∷ 1 ∷ []) 23 faults.BadReference
unfolding graph_at most_instances measure is_utf8 chars encode
no_table = refl

-- null in a table
null_entry : breaks tables (kinds.Class (Some 0)) (1 ∷ 57 ∷ node_id ++ 9 ∷ 0 ∷ 0 ∷ 0 ∷ 7 ∷ 0 ∷ 0 ∷ 0 ∷ 1 ∷ 1 ∷ 0 ∷ []) 25 faults.BadReference
unfolding graph_at most_instances measure is_utf8 chars encode
null_entry = refl

-- a place past the end comes before a null entry
past_before_null : breaks tables (kinds.Class (Some 0)) (1 ∷ 57 ∷ node_id ++ 9 ∷ 0 ∷ 0 ∷ 0 ∷ 7 ∷ 0 ∷ 0 ∷ 0 ∷ 2 ∷ 1 ∷ 0 ∷ []) 23 faults.BadReference
unfolding graph_at most_instances measure is_utf8 chars encode
past_before_null = refl

-- a table's size in a wrong form comes before a place past its end
entry_before_past : breaks tables (kinds.Class (Some 0)) (1 ∷ 57 ∷ node_id ++ 9 ∷ 0 ∷ 0 ∷ 0 ∷ 7 ∷ 0 ∷ 0 ∷ 0 ∷ 2 ∷ 255 ∷ 1 ∷ 0 ∷ 0 ∷ 0 ∷ 2 ∷ []) 24 faults.BadSize
unfolding graph_at most_instances measure is_utf8 chars encode
entry_before_past = refl

-- a table of an unknown slice that has a null
unknown_null_entry : breaks fewer (kinds.Class None) (1 ∷ 57 ∷ other_id ++ 4 ∷ 0 ∷ 0 ∷ 0 ∷ 1 ∷ 0 ∷ []) 17 faults.BadReference
unfolding graph_at most_instances measure is_utf8 chars encode
unknown_null_entry = refl

-- a P where an N is declared
wrong_class : breaks tables (kinds.Class (Some 0)) (1 ∷ 49 ∷ point_id ++ 8 ∷ 0 ∷ 0 ∷ 0 ∷ 5 ∷ 0 ∷ 0 ∷ 0 ∷ []) 6 faults.WrongClass
unfolding graph_at most_instances measure is_utf8 chars encode
wrong_class = refl

-- a P as the next of an N, at the place in the members
wrong_inside : breaks tables (kinds.Class (Some 0)) (1 ∷ 57 ∷ node_id ++ 9 ∷ 0 ∷ 0 ∷ 0 ∷ 7 ∷ 0 ∷ 0 ∷ 0 ∷ 1 ∷ 1 ∷ 1 ∷ 49 ∷ point_id ++ 8 ∷ 0 ∷ 0 ∷ 0 ∷ 5 ∷ 0 ∷ 0 ∷ 0 ∷ []) 23 faults.WrongClass
unfolding graph_at most_instances measure is_utf8 chars encode
wrong_inside = refl

-- no known class comes from B
wrong_unknown : breaks fewer (kinds.Class (Some 0)) (1 ∷ 49 ∷ other_id ++ 4 ∷ 0 ∷ 0 ∷ 0 ∷ []) 6 faults.WrongClass
unfolding graph_at most_instances measure is_utf8 chars encode
wrong_unknown = refl

-- a fault behind a wrong class comes first
wrong_last : breaks tables (kinds.Class (Some 0)) (1 ∷ 49 ∷ point_id ++ 8 ∷ 0 ∷ 0 ∷ 0 ∷ 5 ∷ 0 ∷ 0 ∷ 0 ∷ 248 ∷ []) 23 faults.BadTag
unfolding graph_at most_instances measure is_utf8 chars encode
wrong_last = refl

-- where one instance may begin, the second is one too many
too_many : content_at (instances tables all_slices 1 1).read tables (one (kinds.Class (Some 0))) opening
    (whole (1 ∷ 57 ∷ node_id ++ 9 ∷ 0 ∷ 0 ∷ 0 ∷ 1 ∷ 0 ∷ 0 ∷ 0 ∷ 1 ∷ 1 ∷ 1 ∷ 58 ∷ 1 ∷ 9 ∷ 0 ∷ 0 ∷ 0 ∷ 2 ∷ 0 ∷ 0 ∷ 0 ∷ 1 ∷ 1 ∷ 2 ∷ [])) ≡ fault 19 faults.TooMany
unfolding measure is_utf8 chars encode
too_many = refl

-- ---- optional members

-- an optional member of tag 1
optional_there : reads tables (kinds.Class (Some 2)) (1 ∷ 53 ∷ option_id ++ 10 ∷ 0 ∷ 0 ∷ 0 ∷ 10 ∷ 5 ∷ 0 ∷ 0 ∷ 0 ∷ 255 ∷ []) ((known 2 (with_optional none ((1, int (pos 5)) ∷ [])) ∷ []) ∷ [])
unfolding graph_at most_instances measure is_utf8 chars encode
optional_there = refl

-- tag 30 is not known, and is passed over
unknown_tag : reads tables (kinds.Class (Some 2)) (1 ∷ 53 ∷ option_id ++ 11 ∷ 0 ∷ 0 ∷ 0 ∷ 242 ∷ 30 ∷ 5 ∷ 0 ∷ 0 ∷ 0 ∷ 255 ∷ []) ((known 2 (with_optional none []) ∷ []) ∷ [])
unfolding graph_at most_instances measure is_utf8 chars encode
unknown_tag = refl

-- each format
all_formats : reads optionals (kinds.Class (Some 0)) (1 ∷ 53 ∷ short_id ++ 29 ∷ 0 ∷ 0 ∷ 0 ∷ 13 ∷ 2 ∷ 97 ∷ 98 ∷ 21 ∷ 4 ∷ 1 ∷ 0 ∷ 2 ∷ 0 ∷ 29 ∷ 2 ∷ 7 ∷ 8 ∷ 38 ∷ 3 ∷ 0 ∷ 0 ∷ 0 ∷ 1 ∷ 1 ∷ 97 ∷ 47 ∷ 0 ∷ 255 ∷ []) ((known 0 (with_optional none ((1, text (97 ∷ 98 ∷ [])) ∷ (2, struct (tree (short (pos 1)) (tree (short (pos 2)) none))) ∷ (3, sequence (tree (byte 7) (tree (byte 8) none))) ∷ (4, sequence (tree (text (97 ∷ [])) none)) ∷ (5, reference None) ∷ [])) ∷ []) ∷ [])
unfolding graph_at most_instances measure is_utf8 chars encode
all_formats = refl

-- no end marker
no_marker : breaks optionals (kinds.Class (Some 0)) (1 ∷ 53 ∷ short_id ++ 6 ∷ 0 ∷ 0 ∷ 0 ∷ 13 ∷ 0 ∷ []) 18 faults.Short
unfolding graph_at most_instances measure is_utf8 chars encode
no_marker = refl

-- a byte behind the end marker
behind_marker : breaks optionals (kinds.Class (Some 0)) (1 ∷ 53 ∷ short_id ++ 8 ∷ 0 ∷ 0 ∷ 0 ∷ 13 ∷ 0 ∷ 255 ∷ 0 ∷ []) 19 faults.LeftOver
unfolding graph_at most_instances measure is_utf8 chars encode
behind_marker = refl

-- the flag of optional members alone says whether they are there
optional_flag : breaks tables (kinds.Class (Some 2)) (1 ∷ 49 ∷ option_id ++ 10 ∷ 0 ∷ 0 ∷ 0 ∷ 10 ∷ 5 ∷ 0 ∷ 0 ∷ 0 ∷ 255 ∷ []) 19 faults.LeftOver
unfolding graph_at most_instances measure is_utf8 chars encode
optional_flag = refl

-- tag 1 in the format of a short
other_format : breaks tables (kinds.Class (Some 2)) (1 ∷ 53 ∷ option_id ++ 8 ∷ 0 ∷ 0 ∷ 0 ∷ 9 ∷ 5 ∷ 0 ∷ 255 ∷ []) 19 faults.BadFormat
unfolding graph_at most_instances measure is_utf8 chars encode
other_format = refl

-- an unknown reference is read: without a table there is no place
skipped_reference : breaks optionals (kinds.Class (Some 0)) (1 ∷ 53 ∷ short_id ++ 7 ∷ 0 ∷ 0 ∷ 0 ∷ 55 ∷ 1 ∷ 255 ∷ []) 17 faults.BadReference
unfolding graph_at most_instances measure is_utf8 chars encode
skipped_reference = refl

-- an unknown reference that is null
skipped_null : reads optionals (kinds.Class (Some 0)) (1 ∷ 53 ∷ short_id ++ 7 ∷ 0 ∷ 0 ∷ 0 ∷ 55 ∷ 0 ∷ 255 ∷ []) ((known 0 (with_optional none []) ∷ []) ∷ [])
unfolding graph_at most_instances measure is_utf8 chars encode
skipped_null = refl

-- an instance that begins at an unknown tag of the content is in the graph
skipped_instance : read tables (kinds.Class (Some 1)) (0 ∷ 31 ∷ 1 ∷ 49 ∷ point_id ++ 8 ∷ 0 ∷ 0 ∷ 0 ∷ 5 ∷ 0 ∷ 0 ∷ 0 ∷ []) ≡ Ok (record { roots = values (tree (reference None) none); instances = (known 1 (values (tree (int (pos 5)) none)) ∷ []) ∷ [] })
unfolding graph_at most_instances measure is_utf8 chars encode
skipped_instance = refl

-- an unknown tag behind the value
root_skips : read tables (kinds.Seq 0) (0 ∷ 8 ∷ 5 ∷ []) ≡ Ok (record { roots = values (tree (sequence none) none); instances = [] })
unfolding graph_at most_instances measure is_utf8 chars encode
root_skips = refl

-- an end marker in a whole content
marker_in_content : breaks tables (kinds.Seq 0) (0 ∷ 255 ∷ []) 7 faults.BadTag
unfolding graph_at most_instances measure is_utf8 chars encode
marker_in_content = refl

-- the root ends early; an unknown tag 7 follows, and then tag 0
tag_does_not_rise : breaks tables (kinds.Class (Some 0)) (1 ∷ 57 ∷ node_id ++ 9 ∷ 0 ∷ 0 ∷ 0 ∷ 1 ∷ 0 ∷ 0 ∷ 0 ∷ 1 ∷ 1 ∷ 2 ∷ 58 ∷ 1 ∷ 9 ∷ 0 ∷ 0 ∷ 0 ∷ 2 ∷ 0 ∷ 0 ∷ 0 ∷ 1 ∷ 1 ∷ 2 ∷ []) 31 faults.BadTag
unfolding graph_at most_instances measure is_utf8 chars encode
tag_does_not_rise = refl

-- ---- of known classes alone

-- with a size
sized : read_to known_classes tables (kinds.Class (Some 0)) (1 ∷ 57 ∷ node_id ++ 9 ∷ 0 ∷ 0 ∷ 0 ∷ 7 ∷ 0 ∷ 0 ∷ 0 ∷ 1 ∷ 1 ∷ 2 ∷ []) ≡ Ok (graph (node 7 0 ∷ []))
unfolding graph_at most_instances measure is_utf8 chars encode
sized = refl

-- without one
unsized : read_to known_classes tables (kinds.Class (Some 0)) (1 ∷ 33 ∷ node_id ++ 7 ∷ 0 ∷ 0 ∷ 0 ∷ 2 ∷ []) ≡ Ok (graph (node 7 0 ∷ []))
unfolding graph_at most_instances measure is_utf8 chars encode
unsized = refl

-- a class that is not known
not_unknown : read_to known_classes fewer (kinds.Class None) (1 ∷ 53 ∷ other_id ++ 6 ∷ 0 ∷ 0 ∷ 0 ∷ 7 ∷ 255 ∷ []) ≡ fault 8 faults.UnknownClass
unfolding graph_at most_instances measure is_utf8 chars encode
not_unknown = refl

-- ---- what is written

-- two nodes by their first visit; a third is not reached
visited : order (record { roots = values (to 1); instances = node 2 1 ∷ node 1 0 ∷ node 9 1 ∷ [] }) ≡ 1 ∷ 0 ∷ []
unfolding order most
visited = refl

-- byte by byte
write_byte_by_byte : graph_bytes tables (one (kinds.Class (Some 0))) sliced (graph (node 7 0 ∷ [])) ≡ 26 ∷ 0 ∷ 0 ∷ 0 ∷ 1 ∷ 1 ∷ 1 ∷ 57 ∷ 6 ∷ 58 ∷ 58 ∷ 77 ∷ 58 ∷ 58 ∷ 78 ∷ 9 ∷ 0 ∷ 0 ∷ 0 ∷ 7 ∷ 0 ∷ 0 ∷ 0 ∷ 1 ∷ 1 ∷ 2 ∷ []
unfolding canonical_graph form order most measure
write_byte_by_byte = refl

-- in compact format
write_compact : canonical_graph tables (one (kinds.Class (Some 0))) compact (graph (node 7 0 ∷ [])) ≡ 1 ∷ 33 ∷ node_id ++ 7 ∷ 0 ∷ 0 ∷ 0 ∷ 2 ∷ []
unfolding canonical_graph form order most measure
write_compact = refl

-- two nodes; the root is the second by place, and a third is not reached
write_two : canonical_graph tables (one (kinds.Class (Some 0))) sliced (record { roots = values (to 1); instances = node 2 1 ∷ node 1 0 ∷ node 9 1 ∷ [] }) ≡ 1 ∷ 57 ∷ node_id ++ 9 ∷ 0 ∷ 0 ∷ 0 ∷ 1 ∷ 0 ∷ 0 ∷ 0 ∷ 1 ∷ 1 ∷ 1 ∷ 58 ∷ 1 ∷ 9 ∷ 0 ∷ 0 ∷ 0 ∷ 2 ∷ 0 ∷ 0 ∷ 0 ∷ 1 ∷ 1 ∷ 2 ∷ []
unfolding canonical_graph form order most measure
write_two = refl

-- a D and its base
write_base : canonical_graph tables (one (kinds.Class (Some 3))) sliced (graph ((known 4 (values (tree (text (codes "x")) (to 1))) ∷ known 3 (values (tree (int (pos 1)) none)) ∷ []) ∷ (known 3 (values (tree (int (pos 2)) none)) ∷ []) ∷ [])) ≡ 1 ∷ 25 ∷ derived_id ++ 7 ∷ 0 ∷ 0 ∷ 0 ∷ 1 ∷ 120 ∷ 1 ∷ 1 ∷ 1 ∷ 49 ∷ base_id ++ 8 ∷ 0 ∷ 0 ∷ 0 ∷ 2 ∷ 0 ∷ 0 ∷ 0 ∷ 50 ∷ 2 ∷ 8 ∷ 0 ∷ 0 ∷ 0 ∷ 1 ∷ 0 ∷ 0 ∷ 0 ∷ []
unfolding canonical_graph form order most measure
write_base = refl

-- a class is written under its compact id
write_number : canonical_graph numbered (one (kinds.Class (Some 0))) sliced (graph (node 7 0 ∷ [])) ≡ 1 ∷ 59 ∷ 4 ∷ 9 ∷ 0 ∷ 0 ∷ 0 ∷ 7 ∷ 0 ∷ 0 ∷ 0 ∷ 1 ∷ 1 ∷ 2 ∷ []
unfolding canonical_graph form order most measure digits
write_number = refl

write_number_compact : canonical_graph numbered (one (kinds.Class (Some 0))) compact (graph (node 7 0 ∷ [])) ≡ 1 ∷ 35 ∷ 4 ∷ 7 ∷ 0 ∷ 0 ∷ 0 ∷ 2 ∷ []
unfolding canonical_graph form order most measure digits
write_number_compact = refl

-- and what was kept as `#4` under the number
write_kept_number : canonical_graph tables (one (kinds.Class None)) sliced (graph ((unknown (codes "#4") (7 ∷ 0 ∷ 0 ∷ 0 ∷ 1 ∷ []) false (0 ∷ []) ∷ []) ∷ [])) ≡ 1 ∷ 59 ∷ 4 ∷ 9 ∷ 0 ∷ 0 ∷ 0 ∷ 7 ∷ 0 ∷ 0 ∷ 0 ∷ 1 ∷ 1 ∷ 2 ∷ []
unfolding canonical_graph form order most measure digits
write_kept_number = refl

-- a slice that was kept
write_unknown : canonical_graph fewer (one (kinds.Class (Some 0))) sliced (graph ((unknown (codes "::M::D") (1 ∷ 120 ∷ 1 ∷ []) false (1 ∷ []) ∷ known 0 (values (tree (int (pos 1)) none)) ∷ []) ∷ (known 0 (values (tree (int (pos 2)) none)) ∷ []) ∷ [])) ≡ 1 ∷ 25 ∷ derived_id ++ 7 ∷ 0 ∷ 0 ∷ 0 ∷ 1 ∷ 120 ∷ 1 ∷ 1 ∷ 1 ∷ 49 ∷ base_id ++ 8 ∷ 0 ∷ 0 ∷ 0 ∷ 2 ∷ 0 ∷ 0 ∷ 0 ∷ 50 ∷ 2 ∷ 8 ∷ 0 ∷ 0 ∷ 0 ∷ 1 ∷ 0 ∷ 0 ∷ 0 ∷ []
unfolding canonical_graph form order most measure
write_unknown = refl

-- an optional member
write_optional : canonical_graph tables (one (kinds.Class (Some 2))) sliced (graph ((known 2 (with_optional none ((1, int (pos 5)) ∷ [])) ∷ []) ∷ [])) ≡ 1 ∷ 53 ∷ option_id ++ 10 ∷ 0 ∷ 0 ∷ 0 ∷ 10 ∷ 5 ∷ 0 ∷ 0 ∷ 0 ∷ 255 ∷ []
unfolding canonical_graph form order most measure
write_optional = refl

-- a D in compact format
write_base_compact : canonical_graph tables (one (kinds.Class (Some 3))) compact (graph ((known 4 (values (tree (text (codes "x")) (tree (reference None) none))) ∷ known 3 (values (tree (int (pos 1)) none)) ∷ []) ∷ [])) ≡ 1 ∷ 1 ∷ derived_id ++ 1 ∷ 120 ∷ 0 ∷ 32 ∷ 1 ∷ 0 ∷ 0 ∷ 0 ∷ []
unfolding canonical_graph form order most measure
write_base_compact = refl

-- by first visit, each place in the table once
write_two_places : canonical_graph tables (one (kinds.Class (Some 5))) sliced (graph ((known 5 (values (tree (reference (Some 2)) (to 1))) ∷ []) ∷ leaf 1 ∷ leaf 2 ∷ [])) ≡ 1 ∷ 57 ∷ two_id ++ 6 ∷ 0 ∷ 0 ∷ 0 ∷ 1 ∷ 2 ∷ 2 ∷ 1 ∷ 49 ∷ node_id ++ 9 ∷ 0 ∷ 0 ∷ 0 ∷ 2 ∷ 0 ∷ 0 ∷ 0 ∷ 0 ∷ 1 ∷ 50 ∷ 2 ∷ 9 ∷ 0 ∷ 0 ∷ 0 ∷ 1 ∷ 0 ∷ 0 ∷ 0 ∷ 0 ∷ []
unfolding canonical_graph form order most measure
write_two_places = refl

-- both members name one instance
write_shared : canonical_graph tables (one (kinds.Class (Some 5))) sliced (graph ((known 5 (values (tree (reference (Some 1)) (to 1))) ∷ []) ∷ leaf 1 ∷ [])) ≡ 1 ∷ 57 ∷ two_id ++ 6 ∷ 0 ∷ 0 ∷ 0 ∷ 1 ∷ 1 ∷ 1 ∷ 1 ∷ 49 ∷ node_id ++ 9 ∷ 0 ∷ 0 ∷ 0 ∷ 1 ∷ 0 ∷ 0 ∷ 0 ∷ 0 ∷ []
unfolding canonical_graph form order most measure
write_shared = refl

-- ---- reopening

-- the slice of D that was kept, with instance 1 in its table
reopened_slice : reopened tables 4 (1 ∷ 120 ∷ 1 ∷ []) false (1 ∷ []) ≡ Ok (known 4 (values (tree (text (codes "x")) (to 1))))
unfolding reopened measure is_utf8 chars encode
reopened_slice = refl

-- with optional members
reopened_optional : reopened tables 2 (10 ∷ 5 ∷ 0 ∷ 0 ∷ 0 ∷ []) true [] ≡ Ok (known 2 (with_optional none ((1, int (pos 5)) ∷ [])))
unfolding reopened measure is_utf8 chars encode
reopened_optional = refl

-- a place past the end of the table
reopened_past : reopened tables 4 (1 ∷ 120 ∷ 2 ∷ []) false (1 ∷ []) ≡ fault 2 faults.BadReference
unfolding reopened measure is_utf8 chars encode
reopened_past = refl

-- a place where there is no table
reopened_no_table : reopened tables 4 (1 ∷ 120 ∷ 1 ∷ []) false [] ≡ fault 2 faults.BadReference
unfolding reopened measure is_utf8 chars encode
reopened_no_table = refl

-- bytes behind the members
reopened_left : reopened tables 1 (5 ∷ 0 ∷ 0 ∷ 0 ∷ 9 ∷ []) false [] ≡ fault 4 faults.LeftOver
unfolding reopened measure is_utf8 chars encode
reopened_left = refl
