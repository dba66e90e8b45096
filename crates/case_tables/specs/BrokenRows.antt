-- Bytes that break an input, and what is told of each.
use Rattle.std.specs.Prelude.{ℕ, List, [], ◌∷◌, ◌++◌, map, codes}
use Rattle.std.specs.Fmt.{decimal}
use Rattle.case_tables.specs.declared.broken.BrokenRow.{BrokenRow}
use Rattle.case_tables.specs.Tables.{Name}

-- a byte, what it is set to, and the fault that this brings about
pub record Row : Type 0 where
  pub name : Name
  pub at : ℕ
  pub byte : ℕ
  pub place : ℕ
  pub kind : Name

abbrev pub row_seen : BrokenRow → Row
row_seen r = record { name = r.name.now; at = r.at; byte = r.byte; place = r.place; kind = r.kind.now }

abbrev pub rows_seen : List BrokenRow → List Row
rows_seen rows = map row_seen rows

abbrev pub row_names : List Row → List Name
row_names rows = map (λ row. row.name) rows

-- named by the kind, the place of the byte and its value
abbrev pub broken_at : ℕ → ℕ → ℕ → Name → Row
broken_at at byte place kind = record { name = kind ++ (codes "_" ++ (decimal at ++ (codes "_" ++ decimal byte))); at = at; byte = byte; place = place; kind = kind }

-- of an instance that refers to itself, in sliced format
abbrev pub broken_value_rows : List Row
broken_value_rows = broken_at 0 27 0 (codes "Short") ∷ broken_at 4 2 4 (codes "BadVersion") ∷ broken_at 7 249 7 (codes "BadFlags") ∷ broken_at 7 41 7 (codes "BadFlags")
    ∷ broken_at 7 25 7 (codes "BadLast") ∷ broken_at 15 3 15 (codes "BadSize") ∷ broken_at 15 8 23 (codes "Short") ∷ broken_at 15 10 24 (codes "LeftOver")
    ∷ broken_at 23 2 23 (codes "BadReference") ∷ broken_at 24 255 24 (codes "Short") ∷ broken_at 25 0 25 (codes "BadReference") ∷ broken_at 25 3 25 (codes "BadReference") ∷ []

-- of a request
abbrev pub broken_message_rows : List Row
broken_message_rows = broken_at 0 72 0 (codes "BadMagic") ∷ broken_at 4 2 4 (codes "BadVersion") ∷ broken_at 8 5 8 (codes "BadMessage") ∷ broken_at 9 3 9 (codes "BadStatus")
    ∷ broken_at 10 42 37 (codes "Short") ∷ broken_at 13 1 10 (codes "TooLarge") ∷ broken_at 25 2 25 (codes "BadFacet") ∷ broken_at 35 3 35 (codes "BadMode")
    ∷ broken_at 36 1 38 (codes "Short") ∷ broken_at 37 5 37 (codes "BadSize") ∷ broken_at 37 7 37 (codes "Short") ∷ []
