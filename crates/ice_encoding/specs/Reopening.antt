-- An unknown slice as one of a class: the entries of its table become the references.
use Rattle.std.specs.Prelude.{ℕ, ◌≡◌, Bool, List, [], length, Result, Ok}
use Rattle.ice_types.specs.Tables.{Tables}
use Rattle.ice_prims.specs.declared.fault.Fault.{Fault}
use Rattle.ice_prims.specs.Rest.{whole, ◌>>=◌}
use Rattle.ice_encoding.specs.Bounds.{ended}
use Rattle.ice_encoding.specs.OptionalMembers.{Members, SpellsSliceMembers, slice_members_at}
use Rattle.ice_encoding.specs.Classes.{own_members}
use Rattle.ice_encoding.specs.Graph.{Slice}
use Rattle.ice_encoding.specs.References.{Reference, in_table, entry_at, AreWithin, within}
use Rattle.ice_encoding.specs.Slices.{by_table, unknown_bytes}
use Rattle.ice_encoding.specs.CanonicalGraph.{is_there}

-- the bytes that were kept are members of the class, with places in the table
abbrev pub Reopens : Tables → ℕ → List ℕ → Bool → List ℕ → Slice → Type 0
Reopens t class bytes optionals table s = (raw : Members) × (uses : List (Reference (Unit {0})))
    × SpellsSliceMembers (in_table (is_there table)) t optionals (own_members t class) (unknown_bytes optionals bytes) raw [] uses × AreWithin (length table) uses × (s ≡ by_table class raw table)

-- the same, with the first fault; places count from the first kept byte
unfoldable pub reopened : Tables → ℕ → List ℕ → Bool → List ℕ → Result Slice Fault
reopened t class bytes optionals table = slice_members_at (entry_at (is_there table)) t optionals (own_members t class) [] (whole (unknown_bytes optionals bytes)) >>= λ x.
    ended x.2.bytes x.2.place x >>= λ x. within (length table) x.1 (Ok (by_table class x.0 table))
