-- User exceptions of a type. (Ice manual, "User Exceptions".)
use Rattle.std.specs.Prelude.{ℕ, ◌<◌, ◌≡◌, false, List, [], ◌∷◌, length}
use Rattle.ice_types.specs.Tables.{Tables}
use Rattle.ice_types.specs.CompactIds.{is_numbered}
use Rattle.ice_encoding.specs.Exceptions.{of_exceptions, UserException}
use Rattle.ice_encoding.specs.Graph.{Slice, known, unknown}
use Rattle.ice_encoding.specs.Instances.{slices_of}
use Rattle.ice_encoding.specs.TypedGraph.{IsInstance, RefersIn}

-- a slice that is not kept under a compact id
abbrev pub HasTypeId : Slice → Type 0
HasTypeId (known class content) = Unit {0}
HasTypeId (unknown id bytes optionals table) = is_numbered id ≡ false

-- none is kept under a compact id: exceptions have none
abbrev pub HaveTypeIds : List Slice → Type 0
HaveTypeIds [] = Unit {0}
HaveTypeIds (s ∷ ss) = HasTypeId s × HaveTypeIds ss

-- Its slices are unknown ones and then an exception of the tables with all its bases in order, or one or more unknown ones
-- alone. Their members are of the exceptions' own types, and refer to its instances, each of a class that fits.
pub record OfUserException (t : Tables) (x : UserException) : Type 0 where
  pub slices : IsInstance (of_exceptions t) (RefersIn t x.instances) x.slices
  pub type_ids : HaveTypeIds x.slices
  pub instances : (n : ℕ) → n < length x.instances → IsInstance t (RefersIn t x.instances) (slices_of x.instances n)
