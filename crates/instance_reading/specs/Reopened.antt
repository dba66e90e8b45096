-- An unknown slice, read as one of a class.
use Rattle.std.specs.Prelude.{ℕ, Bool, List, [], length, Result, Ok}
use Rattle.ice_types.specs.Tables.{Tables}
use Rattle.ice_prims.specs.declared.fault.Fault.{Fault}
use Rattle.ice_prims.specs.declared.fault.ReadFault.{ReadFault}
use Rattle.ice_prims.specs.Rest.{Rest, ◌>>=◌}
use Rattle.ice_prims.specs.Taking.{GivesUnlessMemory}
use Rattle.ice_encoding.specs.Bounds.{ended}
use Rattle.ice_encoding.specs.OptionalMembers.{Members, slice_members_at}
use Rattle.ice_encoding.specs.CanonicalGraph.{is_there}
use Rattle.ice_encoding.specs.Classes.{own_members}
use Rattle.ice_encoding.specs.Graph.{Slice, known, unknown}
use Rattle.ice_encoding.specs.References.{Reference, entry_at, within}
use Rattle.ice_encoding.specs.Reopening.{reopened}
use Rattle.ice_encoding.specs.Slices.{by_table}
use Rattle.graph_arena.specs.declared.instance.Slice as stored
use Rattle.graph_arena.specs.Seen.{view_content, view_slice}
use Rattle.instance_reading.specs.declared.sized.SizedMembers.{SizedMembers}
use Rattle.slice_heads.specs.Seen.{view_references}

-- one that is known is what it is
abbrev pub reopened_slice : Tables → ℕ → Slice → Result Slice Fault
reopened_slice t class (known other content) = Ok (known other content)
reopened_slice t class (unknown id bytes optionals table) = reopened t class bytes optionals table

-- the members of the class fill these bytes, with places in the table
abbrev pub members_reopened : Tables → ℕ → Bool → List ℕ → Rest → Result Slice Fault
members_reopened t class optionals table r = slice_members_at (entry_at (is_there table)) t optionals (own_members t class) [] r >>= λ x.
    ended x.2.bytes x.2.place x >>= λ x. within (length table) x.1 (Ok (by_table class x.0 table))

-- what was read has its references in the table, and is the slice with them; or the first that is past the table's end is the fault
abbrev pub resolved_by : ℕ → Members → List (Reference ℕ) → List ℕ → Result Slice Fault
resolved_by class content uses table = within (length table) uses (Ok (by_table class content table))

abbrev pub Resolves : ℕ → SizedMembers → List ℕ → Result stored.Slice ReadFault → Type 0
Resolves class read table result = GivesUnlessMemory view_slice result (resolved_by class (view_content read.members) (view_references read.uses.items) table)
