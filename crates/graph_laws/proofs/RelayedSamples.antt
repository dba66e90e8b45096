-- The second schema of the sample lacks a class of the first.
use Rattle.std.proofs.Common.{ℕ, zero, suc, ◌⊎◌, List, refl, inl}
use Rattle.ice_types.specs.declared.kind.RowRef.{RowRef}
use Rattle.ice_types.specs.declared.kind.RowRef.TheVariants as rows
use Rattle.ice_types.specs.Tables.{HasRowId}
use Rattle.ice_types.specs.Lacking.{HasRow, IsClass, IsTaken, Lacks}
use Rattle.graph_laws.specs.Sample.{base, whole, less}

has_row : (id : List ℕ) (row : RowRef) → HasRowId less id row → HasRow whole less id row
has_row id (rows.Class zero) h = (rows.Class 1, h, (0, refl, (base, base, refl, refl, (refl, tt, refl))))
has_row id (rows.Class (suc at)) h = absurd cc
has_row id (rows.Seq at) h = absurd cc
has_row id (rows.Dict at) h = absurd cc
has_row id (rows.Struct at) h = absurd cc
has_row id (rows.Enum at) h = absurd cc
has_row id (rows.Exception at) h = absurd cc
has_row id (rows.Interface at) h = absurd cc

is_class : (id : List ℕ) (row : RowRef) → HasRowId whole id row → IsClass row ⊎ IsTaken less id
is_class id (rows.Class at) h = inl (at, refl)
is_class id (rows.Seq at) h = absurd cc
is_class id (rows.Dict at) h = absurd cc
is_class id (rows.Struct at) h = absurd cc
is_class id (rows.Enum at) h = absurd cc
is_class id (rows.Exception at) h = absurd cc
is_class id (rows.Interface at) h = absurd cc

pub lacks_one : Lacks whole less
lacks_one = record { kept = has_row; lost = is_class }
