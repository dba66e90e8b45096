-- What a table is to its callers.
use Rattle.std.specs.Prelude.{ℕ, ◌≡◌, List, Some, Contains, slice_get}
use Rattle.case_tables.specs.declared.CaseTable.{CaseTable}
use Rattle.case_tables.specs.Tables.{Name, names_seen}

-- the names of a table in the order of their codes
abbrev pub names_of : {N : ℕ} → CaseTable N → List Name
names_of table = names_seen table.names.now

-- the name stands in the row of the code
abbrev pub HasRow : {N : ℕ} → CaseTable N → ℕ → Name → Type 0
HasRow table code name = slice_get (names_of table) code ≡ Some name

-- the name stands in no row
abbrev pub HasNoRow : {N : ℕ} → CaseTable N → Name → Type 0
HasNoRow table name = Contains (names_of table) name → ⊥

-- no name has two codes
abbrev pub HasOneCode : {N : ℕ} → CaseTable N → Type 0
HasOneCode table = (code other : ℕ) (name : Name) → HasRow table code name → HasRow table other name → code ≡ other
