-- What a table of broken bytes is to its callers.
use Rattle.std.specs.Prelude.{ℕ, ◌≡◌, ◌<◌, List, Some, slice_get}
use Rattle.case_tables.specs.declared.broken.BrokenTable.{BrokenTable}
use Rattle.case_tables.specs.Tables.{Name}
use Rattle.case_tables.specs.BrokenRows.{Row, rows_seen, row_names}

abbrev pub rows_of : {N : ℕ} → BrokenTable N → List Row
rows_of table = rows_seen table.rows.now

-- this row stands at this place
abbrev pub IsRowAt : {N : ℕ} → BrokenTable N → ℕ → Row → Type 0
IsRowAt {N} table at row = (at < N) × (slice_get (rows_of table) at ≡ Some row)

-- no name stands in two rows
abbrev pub HasOneRow : {N : ℕ} → BrokenTable N → Type 0
HasOneRow table = (at other : ℕ) (name : Name) → slice_get (row_names (rows_of table)) at ≡ Some name → slice_get (row_names (rows_of table)) other ≡ Some name → at ≡ other
