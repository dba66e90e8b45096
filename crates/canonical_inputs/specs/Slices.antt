-- One slice of an instance, up to the entries of its table.
use Rattle.std.specs.Prelude.{ℕ, ◌≡◌, true, false, List, [], ◌++◌, length, zero, suc, Some, slice_get, is_none}
use Rattle.ice_types.specs.declared.declarations.ClassDecl.{ClassDecl}
use Rattle.ice_types.specs.declared.schema.TheConstants.{MOST_DEPTH}
use Rattle.ice_types.specs.Tables.{Tables}
use Rattle.ice_prims.specs.Bytes.{size_bytes}
use Rattle.ice_encoding.specs.Slices.{slice_size}
use Rattle.ice_encoding.specs.CanonicalGraph.{is_there, flags_byte, spelled_by, written_head}
use Rattle.canonical_values.specs.Frames.{Passes}
use Rattle.canonical_inputs.specs.declared.slice.Passed.{Passed}
use Rattle.canonical_inputs.specs.Heads.{pen_at}
use Rattle.canonical_inputs.specs.Places.{ArePut, kinds_from}

-- what stands before the entries of a table of so many
abbrev pub table_size : ℕ → List ℕ
table_size zero = []
table_size (suc n) = size_bytes (suc n)

-- a slice of a class in the bytes, and what is remembered before and behind it
pub record SliceFound (t : Tables) (input : List ℕ) (at : ℕ) (before behind : List ℕ) (s : Passed) : Type 0 where
  pub row : ClassDecl
  pub is_row : slice_get t.classes s.class ≡ Some row
  pub base : s.base ≡ row.base
  pub head : List ℕ
  pub members : List ℕ
  pub passes : Passes t input at s.end (head ++ ((slice_size.put (length members) ++ members) ++ table_size (length s.needs.items)))
  pub put : ArePut t s.needs.items MOST_DEPTH (kinds_from 0 row.members) 0 (length s.needs.items) members
  pub written : (begun : ℕ) → written_head (λ form. flags_byte form false (is_there s.needs.items) true (is_none row.base)) (spelled_by row) (pen_at t begun before) ≡ (head, pen_at t begun behind)
