-- What is written for a user exception, in both formats. (Ice manual, "Data Encoding for Class and Exception Types".)
use Rattle.std.specs.Prelude.{ℕ, ◌≡◌, Bool, true, false, not, List, [], ◌∷◌, map, Option, Some}
use Rattle.ice_types.specs.Tables.{Tables}
use Rattle.ice_prims.specs.Bytes.{text_bytes}
use Rattle.ice_encoding.specs.Opening.{encapsulated_bytes}
use Rattle.ice_encoding.specs.Tree.{Trees, none, tree, reference}
use Rattle.ice_encoding.specs.Writing.{Piece, exactly, ◌>>◌}
use Rattle.ice_encoding.specs.Pausing.{written_in_place}
use Rattle.ice_encoding.specs.OptionalMembers.{with_optional}
use Rattle.ice_encoding.specs.CanonicalGraph.{Pen, Format, sliced, compact, Writable, IsWritable, is_there, table_of, has_optional, flags_byte, id_of, sized_body, members_bytes, put_inline, written_instance, blank}
use Rattle.ice_encoding.specs.Exceptions.{of_exceptions, UserException, SpellsException}
use Rattle.ice_encoding.specs.Flags.{Reach, no_id}
use Rattle.ice_encoding.specs.Graph.{Slice, Graph}
use Rattle.ice_encoding.specs.Names.{instance_names, renamed_slice}
use Rattle.ice_encoding.specs.SameGraph.{Holds, numbered}
use Rattle.ice_encoding.specs.Visiting.{place, order, most}

-- ---- names: the slices of an exception stand for the roots of a graph

-- a reference to each
abbrev pub references_to : List ℕ → Trees
references_to [] = none
references_to (n ∷ ns) = tree (reference (Some n)) (references_to ns)

-- its instances, and as roots a reference to each that its slices name, slice by slice
abbrev pub graph_of : UserException → Graph
graph_of x = record {
  roots = with_optional (references_to (instance_names x.slices)) [];
  instances = x.instances;
}

-- the names that it reaches, by first visit
abbrev pub order_of : UserException → List ℕ
order_of x = order (graph_of x)

-- the exception of the listed instances, each named by its place in the list
abbrev pub numbered_user_exception : List ℕ → UserException → UserException
numbered_user_exception ns x = record {
  slices = map (renamed_slice (place ns)) x.slices;
  instances = (numbered ns (graph_of x)).instances;
}

-- the one exception of the reached instances, named by their first visits
unfoldable pub form_of : UserException → UserException
form_of x = numbered_user_exception (order_of x) x

-- Pairs of names, by two lists of one length: with each name replaced by the place of its pair, both exceptions are equal.
pub record SameUserException (x y : UserException) : Type 0 where
  pub left : List ℕ
  pub right : List ℕ
  pub left_holds : Holds left (graph_of x)
  pub right_holds : Holds right (graph_of y)
  pub equal : numbered_user_exception left x ≡ numbered_user_exception right y

-- the bytes are an encapsulation of an exception that is the same
abbrev pub SpellsSame : Tables → Reach → List ℕ → UserException → Type 0
SpellsSame t reach bytes x = (y : UserException) × SpellsException t reach bytes y × SameUserException y x

-- ---- slices, of the tables whose classes are the exceptions. No bits of a type id stand in their flags, and each has its
-- type id as a text, which is not counted.

module _ (t : Tables) (refer : Option ℕ → Piece Pen) where
  -- the flags and the type id
  abbrev pub user_exception_head : Bool → Bool → Bool → Slice → Piece Pen
  user_exception_head tabled sized last s =
      exactly (flags_byte no_id (has_optional s) tabled sized last ∷ text_bytes (id_of (of_exceptions t) s))

  -- the last alone has the flag
  abbrev pub user_exception_slices : List Slice → Piece Pen
  user_exception_slices [] = exactly []
  user_exception_slices (s ∷ ss) =
      user_exception_head (is_there (table_of s)) true (not (is_there ss)) s >> (sized_body (of_exceptions t) refer s >> user_exception_slices ss)

  -- members stand inline
  abbrev pub user_exception_plain : List Slice → Piece Pen
  user_exception_plain [] = exactly []
  user_exception_plain (s ∷ ss) =
      user_exception_head false false (not (is_there ss)) s >> (members_bytes (of_exceptions t) refer s >> user_exception_plain ss)

  -- in a format
  abbrev pub user_exception_as : Format → List Slice → Piece Pen
  user_exception_as sliced = user_exception_slices
  user_exception_as compact = user_exception_plain

-- ---- an exception as a whole

-- the content of an exception whose names are numbers by first visit
abbrev pub user_exception_bytes : Tables → Format → UserException → List ℕ
user_exception_bytes t f k = (user_exception_as t (written_in_place put_inline (written_instance t f (graph_of k) most)) f k.slices blank).0

-- the content
unfoldable pub canonical_user_exception : Tables → Format → UserException → List ℕ
canonical_user_exception t f x = user_exception_bytes t f (form_of x)

-- the encapsulation
abbrev pub exception_bytes : Tables → Format → UserException → List ℕ
exception_bytes t f x = encapsulated_bytes (canonical_user_exception t f x)

-- Compact format asks that no slice is kept, of the exception and of each instance that is reached.
abbrev pub CanBeWritten : Format → UserException → Type 0
CanBeWritten f x = Writable f x.slices × IsWritable f (graph_of x)
