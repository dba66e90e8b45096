-- What stands between the type id of a slice that is kept and its table. (Ice manual, "Data Encoding for Class and Exception Types".)
use Rattle.std.specs.Prelude.{ℕ, ◌≡◌, Bool, List, [], ◌++◌, length, Result, Ok, Err}
use Rattle.std.specs.Borrow.{Bor}
use Rattle.ice_prims.specs.declared.fault.Fault.{Fault}
use Rattle.ice_prims.specs.Rest.{Rest}
use Rattle.ice_encoding.specs.Graph.{Slice, known, unknown}
use Rattle.ice_encoding.specs.Slices.{slice_size, unknown_bytes, without_marker}

-- the slice is of a class that is not known
abbrev pub IsUnknown : Slice → Type 0
IsUnknown (known class content) = ⊥
IsUnknown (unknown id bytes optionals table) = Unit {0}

-- a size, the bytes that are kept, and behind them the end marker where it stood there
abbrev pub unknown_part : Bool → List ℕ → List ℕ
unknown_part optionals bytes = slice_size.put (length (unknown_bytes optionals bytes)) ++ unknown_bytes optionals bytes

abbrev pub unknown_part_of : Slice → List ℕ
unknown_part_of (known class content) = []
unknown_part_of (unknown id bytes optionals table) = unknown_part optionals bytes

-- the bytes in a bound before its end marker, or the fault of that
abbrev pub FindsUnknown : Bool → Rest → Result (Bor (List ℕ)) Fault → Type 0
FindsUnknown optionals bound (Ok bytes) = without_marker optionals bound ≡ Ok bytes.now
FindsUnknown optionals bound (Err e) = without_marker optionals bound ≡ Err e
