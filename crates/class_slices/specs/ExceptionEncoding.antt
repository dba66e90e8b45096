-- What comes of an exception that is written. (Ice manual, "Data Encoding for Class and Exception Types".)
use Rattle.std.specs.Prelude.{ℕ, ◌≡◌, ◌<◌, ◌≤◌, length, Option, None, Some, Result, Ok, Err, Vec}
use Rattle.std.specs.declared.alloc.Global.{Global}
use Rattle.ice_types.specs.Tables.{Tables}
use Rattle.ice_encoding.specs.CanonicalGraph.{Format, sliced, compact}
use Rattle.ice_encoding.specs.Exceptions.{of_exceptions, UserException}
use Rattle.ice_encoding.specs.UserExceptionTyped.{HaveTypeIds, OfUserException}
use Rattle.ice_encoding.specs.UserExceptionWritten.{graph_of, exception_bytes, CanBeWritten}
use Rattle.ice_encoding.specs.TypedGraph.{IsInstance, RefersIn}
use Rattle.value_checks.specs.First.{IsFirstInstance}
use Rattle.class_slices.specs.Encoding as graphs
use Rattle.class_slices.specs.declared.user_exception_fault.UserExceptionFault.{UserExceptionFault}
use Rattle.class_slices.specs.declared.user_exception_fault.UserExceptionFault.TheVariants as faults

-- its own slices are of their types
abbrev pub AreUserException : Tables → UserException → Type 0
AreUserException t x = IsInstance (of_exceptions t) (RefersIn t x.instances) x.slices × HaveTypeIds x.slices

-- The first part that is not of its type: its own slices, which are None, or the first of its instances, in the order of
-- their first visits from the names in its slices, and then by place.
abbrev pub IsFirstIll : Tables → UserException → Option ℕ → Type 0
IsFirstIll t x None = AreUserException t x → ⊥
IsFirstIll t x (Some n) = AreUserException t x × IsFirstInstance t (graph_of x) (Some n)

-- The first part with an unknown slice: its own slices, which are None, or the first of the instances that they lead to.
abbrev pub IsFirstUnknown : UserException → Option ℕ → Type 0
IsFirstUnknown x None = graphs.BeginsUnknown x.slices
IsFirstUnknown x (Some n) = (graphs.BeginsUnknown x.slices → ⊥) × graphs.IsFirstUnknown (graph_of x) n

-- compact format cannot carry it
abbrev pub NeedsSliced : Format → UserException → Option ℕ → Type 0
NeedsSliced sliced x at = ⊥
NeedsSliced compact x at = IsFirstUnknown x at

-- The encapsulation in the format, where the exception is of its type, can be written in the format, and it is not longer
-- than the limit; else the first part that is not of its type, the first that has an unknown slice, or the length.
abbrev pub EncodesException : Tables → Format → UserException → ℕ → Result (Vec ℕ Global) UserExceptionFault → Type 0
EncodesException t f x limit (Ok out) = OfUserException t x × CanBeWritten f x × (out.items ≡ exception_bytes t f x) × (length out.items ≤ limit)
EncodesException t f x limit (Err (faults.IllTyped at)) = IsFirstIll t x at
EncodesException t f x limit (Err (faults.UnknownNeedsSliced at)) = OfUserException t x × NeedsSliced f x at
EncodesException t f x limit (Err (faults.TooLong n)) = OfUserException t x × CanBeWritten f x × (n ≡ length (exception_bytes t f x)) × (limit < n)
EncodesException t f x limit (Err faults.Memory) = Unit {0}
