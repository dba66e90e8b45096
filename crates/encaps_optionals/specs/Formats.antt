-- The names of formats. (Ice manual, "Data Encoding for Optional Values".)
use Rattle.std.specs.Prelude.{ℕ, ◌≡◌, List, Some, slice_get}
use Rattle.case_tables.specs.Protocol.{format_names}

-- the format stands in the row of this name
abbrev pub IsNamed : ℕ → List ℕ → Type 0
IsNamed format name = slice_get format_names format ≡ Some name
