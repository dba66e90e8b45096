-- Which graphs and user exceptions can be written. (Ice manual, "Data Encoding".)
use Rattle.std.specs.Prelude.{ℕ, List, [], ◌∷◌, length}
use Rattle.ice_types.specs.Tables.{Tables}
use Rattle.ice_encoding.specs.Classes.{own_members}
use Rattle.ice_encoding.specs.Graph.{Slice, known, unknown, Graph}
use Rattle.ice_encoding.specs.Instances.{slices_of}
use Rattle.ice_encoding.specs.Names.{instance_names}
use Rattle.ice_encoding.specs.Exceptions.{of_exceptions, UserException}
use Rattle.graph_arena.specs.Arena.{AreBelow}
use Rattle.value_writing.specs.WritingMembers.{ContentCanBeWritten}
use Rattle.instance_writing.specs.Tabling.{HasPlaces}

-- sizes and tags are at most the greatest int, no key has a reference, and each tag is that of a member of the class
abbrev pub SliceCanBeWritten : Tables → Slice → Type 0
SliceCanBeWritten t (known class c) = ContentCanBeWritten c × HasPlaces (own_members t class).optional c
SliceCanBeWritten t (unknown id bytes optionals table) = Unit {0}

abbrev pub SlicesCanBeWritten : Tables → List Slice → Type 0
SlicesCanBeWritten t [] = Unit {0}
SlicesCanBeWritten t (s ∷ ss) = SliceCanBeWritten t s × SlicesCanBeWritten t ss

-- the roots, whose references are put in place, and each instance
pub record GraphCanBeWritten (t : Tables) (g : Graph) : Type 0 where
  pub roots : ContentCanBeWritten g.roots
  pub instances : (n : ℕ) → SlicesCanBeWritten t (slices_of g.instances n)

-- the exception of these slices, and of the instances of a graph
abbrev pub user_exception_of : List Slice → Graph → UserException
user_exception_of slices g = record { slices = slices; instances = g.instances }

-- its slices, whose references are to its instances, and each instance
pub record UserExceptionCanBeWritten (t : Tables) (x : UserException) : Type 0 where
  pub names : AreBelow (length x.instances) (instance_names x.slices)
  pub slices : SlicesCanBeWritten (of_exceptions t) x.slices
  pub instances : (n : ℕ) → SlicesCanBeWritten t (slices_of x.instances n)
