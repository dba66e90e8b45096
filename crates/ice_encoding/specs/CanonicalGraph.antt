-- The canonical bytes of a graph, in both formats. (Ice manual, "Data Encoding for Class and Exception Types".)
use Rattle.std.specs.Prelude.{ℕ, zero, suc, ◌+◌, ◌<◌, Bool, true, false, List, [], ◌∷◌, ◌++◌, length, Option, None, Some, slice_get, nat_lt}
use Rattle.ice_types.specs.declared.declarations.Shape.{Shape}
use Rattle.ice_types.specs.declared.declarations.ClassDecl.{ClassDecl}
use Rattle.ice_types.specs.Tables.{Tables}
use Rattle.ice_types.specs.CompactIds.{number_in, numbered_id}
use Rattle.ice_prims.specs.Bytes.{size_bytes, text_bytes}
use Rattle.ice_encoding.specs.Opening.{encapsulated_bytes}
use Rattle.ice_encoding.specs.Port.{size_of}
use Rattle.ice_encoding.specs.Writing.{Piece, exactly, ◌>>◌}
use Rattle.ice_encoding.specs.Pausing.{Put, written_in_place}
use Rattle.ice_encoding.specs.Classes.{place_of, own_members}
use Rattle.ice_encoding.specs.Graph.{Slice, known, unknown, Graph}
use Rattle.ice_encoding.specs.Names.{names_of, renamed_members}
use Rattle.ice_encoding.specs.Flags.{IdForm, no_id, as_text, as_index, as_number}
use Rattle.ice_encoding.specs.Slices.{slice_size, unknown_bytes}
use Rattle.ice_encoding.specs.Instances.{slices_of}
use Rattle.ice_encoding.specs.Visiting.{place, is_listed, most, order}
use Rattle.ice_encoding.specs.SameGraph.{form}
use Rattle.ice_encoding.specs.Members.{written_slice_members, written_content}

-- What writing remembers: how many instances have begun, and the type ids that stand as strings.
pub record Pen : Type 0 where
  pub begun : ℕ
  pub ids : List (List ℕ)

-- ---- tables

-- those not seen before, each once, in order of first use
abbrev pub each_once : List ℕ → List ℕ → List ℕ
each_once seen [] = []
each_once seen (n ∷ ns) = elim (is_listed seen n) [ true ↦ each_once seen ns | false ↦ n ∷ each_once (n ∷ seen) ns ]

-- the names in the table of a slice
abbrev pub table_of : Slice → List ℕ
table_of (known class content) = each_once [] (names_of content)
table_of (unknown id bytes optionals table) = table

-- each reference as a size: 0 for null, else one more than its place in the table
abbrev pub by_size : Option ℕ → Piece (Unit {0})
by_size n = exactly (size_bytes (size_of n))

-- the members with places as references, or what was kept
abbrev pub sized_bytes : Tables → Slice → List ℕ
sized_bytes t (known class content) = (written_slice_members by_size t (own_members t class) (renamed_members (place (table_of (known class content))) content) tt).0
sized_bytes t (unknown id bytes optionals table) = unknown_bytes optionals bytes

-- ---- flags and ids

-- whether there is any
abbrev pub is_there : {A : Type 0} → List A → Bool
is_there [] = false
is_there (x ∷ xs) = true

-- a bit that is set, or not
abbrev pub bit : Bool → ℕ → ℕ
bit true n = n
bit false n = 0

-- the bits of the form of a type id
abbrev pub id_bits : IdForm → ℕ
id_bits no_id = 0
id_bits as_text = 1
id_bits as_index = 2
id_bits as_number = 3

-- the byte of these flags
abbrev pub flags_byte : IdForm → Bool → Bool → Bool → Bool → ℕ
flags_byte id has_optional has_table has_size is_last = id_bits id + (bit has_optional 4 + (bit has_table 8 + (bit has_size 16 + bit is_last 32)))

-- the type id in a row
abbrev pub id_in : Option ClassDecl → List ℕ
id_in None = []
id_in (Some d) = d.id

-- the type id of a slice
abbrev pub id_of : Tables → Slice → List ℕ
id_of t (known class content) = id_in (slice_get t.classes class)
id_of t (unknown id bytes optionals table) = id

-- a class by its compact id where it has one, else by its type id
abbrev pub spelled_by : ClassDecl → List ℕ
spelled_by d = elim d.compact [ None ↦ d.id | Some number ↦ numbered_id number ]

abbrev pub row_id : Option ClassDecl → List ℕ
row_id None = []
row_id (Some d) = spelled_by d

-- the id under which a slice is written
abbrev pub written_id : Tables → Slice → List ℕ
written_id t (known class content) = row_id (slice_get t.classes class)
written_id t (unknown id bytes optionals table) = id

-- whether the flag of optional members stands
abbrev pub has_optional : Slice → Bool
has_optional (known class content) = is_there content.optional
has_optional (unknown id bytes optionals table) = optionals

-- as an index where it was written before, else as a string
abbrev pub head_as : Option ℕ → (IdForm → ℕ) → List ℕ → Piece Pen
head_as (Some i) flags id p = (flags as_index ∷ size_bytes (suc i), p)
head_as None flags id p = (flags as_text ∷ text_bytes id, record { begun = p.begun; ids = p.ids ++ id ∷ [] })

-- `#n` as the number, a type id as an index or a string
abbrev pub head_under : Option ℕ → (IdForm → ℕ) → List ℕ → Piece Pen
head_under (Some number) flags id p = (flags as_number ∷ size_bytes number, p)
head_under None flags id p = head_as (place_of p.ids id) flags id p

-- the flags, and the id
abbrev pub written_head : (IdForm → ℕ) → List ℕ → Piece Pen
written_head flags id p = head_under (number_in id) flags id p

-- ---- slices

-- with slice sizes and tables, or without
pub data Format : Type 0 where
  sliced : Format
  compact : Format

module _ (t : Tables) (refer : Option ℕ → Piece Pen) where
  -- references one after the other
  abbrev pub written_names : List ℕ → Piece Pen
  written_names [] = exactly []
  written_names (n ∷ ns) = refer (Some n) >> written_names ns

  -- the table, where it has an entry
  abbrev pub written_table : List ℕ → Piece Pen
  written_table [] = exactly []
  written_table (n ∷ ns) = exactly (size_bytes (length (n ∷ ns))) >> written_names (n ∷ ns)

  -- whether no slice follows
  abbrev pub is_end : List Slice → Bool
  is_end [] = true
  is_end (s ∷ ss) = false

  -- the size, what it counts, and the table
  abbrev pub sized_body : Slice → Piece Pen
  sized_body s = exactly (slice_size.put (length (sized_bytes t s)) ++ sized_bytes t s) >> written_table (table_of s)

  -- with sizes and tables
  abbrev pub written_slices : List Slice → Piece Pen
  written_slices [] = exactly []
  written_slices (s ∷ ss) = written_head (λ form. flags_byte form (has_optional s) (is_there (table_of s)) true (is_end ss)) (written_id t s) >> (sized_body s >> written_slices ss)

  -- without: a type id stands in the first alone, and references inline
  abbrev pub members_bytes : Slice → Piece Pen
  members_bytes (known class content) = written_slice_members refer t (own_members t class) content
  members_bytes (unknown id bytes optionals table) = exactly []

  -- the slices behind the first
  abbrev pub written_bases : List Slice → Piece Pen
  written_bases [] = exactly []
  written_bases (s ∷ ss) = exactly (flags_byte no_id (has_optional s) false false (is_end ss) ∷ []) >> (members_bytes s >> written_bases ss)

  -- the first slice has a type id, those behind it none
  abbrev pub written_plain : List Slice → Piece Pen
  written_plain [] = exactly []
  written_plain (s ∷ ss) = written_head (λ form. flags_byte form (has_optional s) false false (is_end ss)) (written_id t s) >> (members_bytes s >> written_bases ss)

  -- in a format
  abbrev pub written_as : Format → List Slice → Piece Pen
  written_as sliced = written_slices
  written_as compact = written_plain

-- ---- instances, of a graph whose names are numbers by first visit

-- with an instance more
abbrev pub with_one_begun : Pen → Pen
with_one_begun p = record { begun = suc p.begun; ids = p.ids }

-- 0 for null, the number from 2 of one that has begun, else 1 and the instance
abbrev pub put_inline : Option ℕ → Pen → Put Pen
put_inline None p = record { bytes = size_bytes 0; begun = None; after = p }
put_inline (Some n) p = elim (nat_lt n p.begun) [
  | true ↦ record { bytes = size_bytes (suc (suc n)); begun = None; after = p }
  | false ↦ record { bytes = size_bytes 1; begun = Some n; after = p }
]

-- an instance with all that begin in it
abbrev pub written_instance : Tables → Format → Graph → ℕ → ℕ → Piece Pen
written_instance t f g zero n = exactly []
written_instance t f g (suc depth) n = λ p. written_as t (written_in_place put_inline (written_instance t f g depth)) f (slices_of g.instances n) (with_one_begun p)

-- nothing has begun
abbrev pub blank : Pen
blank = record { begun = 0; ids = [] }

-- the content of a graph whose names are numbers by first visit
abbrev pub bytes_of : Tables → Shape → Format → Graph → List ℕ
bytes_of t shape f k = (written_content (written_in_place put_inline (written_instance t f k most)) t shape k.roots blank).0

-- the content
unfoldable pub canonical_graph : Tables → Shape → Format → Graph → List ℕ
canonical_graph t shape f g = bytes_of t shape f (form g)

-- the encapsulation
abbrev pub graph_bytes : Tables → Shape → Format → Graph → List ℕ
graph_bytes t shape f g = encapsulated_bytes (canonical_graph t shape f g)

-- ---- what can be written

-- compact format asks that the first slice is of a known class, and so all are
abbrev pub Compact : List Slice → Type 0
Compact [] = ⊥
Compact (known class content ∷ ss) = Unit {0}
Compact (unknown id bytes optionals table ∷ ss) = ⊥

-- what a format asks of the slices
abbrev pub Writable : Format → List Slice → Type 0
Writable sliced slices = Unit {0}
Writable compact slices = Compact slices

-- each reached instance can be written in the format
abbrev pub IsWritable : Format → Graph → Type 0
IsWritable format g = (n : ℕ) → place (order g) n < length (order g) → Writable format (slices_of g.instances n)
