-- A slice up to the entries of its table.
use Rattle.std.proofs.Common.{◌≡◌, ℕ, List, [], ◌++◌, Result, Ok, Err, slice_get, sym, ap, ◌∙◌}
use Rattle.std.specs.Prelude.{OnOk}
use Rattle.std.specs.declared.alloc.AllocError.{AllocError}
use Rattle.ice_types.specs.declared.declarations.Member.{Member}
use Rattle.ice_types.specs.Tables.{Tables}
use Rattle.ice_encoding.specs.Writing.{Piece}
use Rattle.ice_encoding.specs.Pausing.{written_in_place}
use Rattle.ice_encoding.specs.OptionalMembers.{Members, shape_of}
use Rattle.ice_encoding.specs.Members.{written_slice_members}
use Rattle.ice_encoding.specs.Classes.{own_members, members_in}
use Rattle.ice_encoding.specs.Graph.{known}
use Rattle.ice_encoding.specs.Names.{names_of}
use Rattle.ice_encoding.specs.CanonicalGraph.{table_of, sized_bytes}
use Rattle.graph_arena.specs.Arena.{AreBelow}
use Rattle.value_writing.specs.Putting.{InsideWritten}
use Rattle.value_writing.specs.WritingMembers.{WritesPiece}
use Rattle.value_parts.specs.declared.sliced_type.SlicedType.{SlicedType}
use Rattle.value_parts.specs.SlicedType.{rows_of}
use Rattle.instance_writing.specs.Tabling.{Listed, no_names, place_put, HasPlaces}
use Rattle.instance_writing.proofs.Placed.{slice-listed}
use Rattle.instance_writing.proofs.Steps.{members-same}

-- nothing begins in the members
abbrev pub nothing_inside : InsideWritten Listed
nothing_inside n s = ([], s)

module _ (sort : SlicedType) (t : Tables) (count class : ℕ) (own : List Member) (c : Members) (table table' : Listed) (out out' : List ℕ)
    (is : own ≡ members_in (slice_get (rows_of sort t).classes class)) (empty : table ≡ no_names count) (nothing : out ≡ []) (below : AreBelow count (names_of c)) (plain : HasPlaces (own_members (rows_of sort t) class).optional c) where
  all-written : written_slice_members (written_in_place place_put nothing_inside) t (shape_of own) c table ≡ (sized_bytes (rows_of sort t) (known class c), record { count = count; names = table_of (known class c) })
  all-written = ap (λ (ms : List Member). written_slice_members (written_in_place place_put nothing_inside) t (shape_of ms) c table) is
      ∙ ap (λ (p : Piece Listed). p table) (sym (members-same sort t (written_in_place place_put nothing_inside) (own_members (rows_of sort t) class) c))
      ∙ ap (written_slice_members (written_in_place place_put nothing_inside) (rows_of sort t) (own_members (rows_of sort t) class) c) empty
      ∙ slice-listed (rows_of sort t) nothing_inside count class c below plain

  pub members-put : (result : Result (Unit {0}) AllocError) → WritesPiece (written_slice_members (written_in_place place_put nothing_inside) t (shape_of own) c) result table out table' out' → OnOk result (out' ≡ sized_bytes (rows_of sort t) (known class c))
  members-put (Ok x) h = h.0 ∙ ap (λ (l : List ℕ). l ++ (written_slice_members (written_in_place place_put nothing_inside) t (shape_of own) c table).0) nothing ∙ ap (λ (x : List ℕ × Listed). x.0) all-written
  members-put (Err e) h = tt

  pub table-put : (result : Result (Unit {0}) AllocError) → WritesPiece (written_slice_members (written_in_place place_put nothing_inside) t (shape_of own) c) result table out table' out' → OnOk result (table' ≡ record { count = count; names = table_of (known class c) })
  table-put (Ok x) h = h.1 ∙ ap (λ (x : List ℕ × Listed). x.1) all-written
  table-put (Err e) h = tt
