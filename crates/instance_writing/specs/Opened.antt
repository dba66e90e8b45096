-- What is still written of a slice that has begun.
use Rattle.std.specs.Prelude.{ℕ, ◌≡◌, ◌<◌, ◌^◌, Bool, true, false, List, [], length, drop, Option}
use Rattle.ice_types.specs.Tables.{Tables}
use Rattle.ice_encoding.specs.Writing.{Piece}
use Rattle.ice_encoding.specs.Pausing.{written_in_place}
use Rattle.ice_encoding.specs.CanonicalGraph.{Pen, written_names}
use Rattle.graph_arena.specs.Arena.{AreBelow}
use Rattle.value_writing.specs.Putting.{InsideWritten, Written, onto}
use Rattle.value_writing.specs.WritingMembers.{remaining, members_left, RemainingFits}
use Rattle.instance_writing.specs.declared.open_slice.OpenMembers.{OpenMembers}
use Rattle.instance_writing.specs.declared.open_slice.OpenSlice.{OpenSlice}
use Rattle.instance_writing.specs.declared.open_slice.OpenSlice.TheVariants.{Nothing, Found, Lent, Members}
use Rattle.instance_writing.specs.Pens.{put_counted}

-- a reference, with the instance that begins at it
abbrev pub refer_to : InsideWritten Pen → Option ℕ → Piece Pen
refer_to inside = written_in_place put_counted inside

-- the entries of its table
abbrev pub entries_in : OpenSlice → List ℕ
entries_in Nothing = []
entries_in (Found next names) = drop next names
entries_in (Lent names) = names.now
entries_in (Members members) = []

-- the first slice has not begun
abbrev pub is_first : OpenSlice → Bool
is_first Nothing = true
is_first (Found next names) = false
is_first (Lent names) = false
is_first (Members members) = false

-- it has a table with these entries
abbrev pub HasEntries : List ℕ → OpenSlice → Type 0
HasEntries entries Nothing = ⊥
HasEntries entries (Found next names) = (drop next names ≡ entries) × (length names < 2 ^ 31)
HasEntries entries (Lent names) = names.now ≡ entries
HasEntries entries (Members members) = ⊥

-- Entries of a table are left, which has no more than a size can tell, or nothing.
abbrev pub IsTabled : OpenSlice → Type 0
IsTabled Nothing = Unit {0}
IsTabled (Found next names) = length names < 2 ^ 31
IsTabled (Lent names) = Unit {0}
IsTabled (Members members) = ⊥

-- what is left of its members
abbrev pub members_of : Tables → InsideWritten Pen → OpenMembers → Written Pen → Written Pen
members_of t inside m w = members_left put_counted inside t m.own.now (remaining m.writer) w

-- the entries of its table, or what is left of its members
abbrev pub open_left : Tables → InsideWritten Pen → OpenSlice → Written Pen → Written Pen
open_left t inside Nothing w = w
open_left t inside (Found next names) w = onto (written_names t (refer_to inside) (drop next names)) w
open_left t inside (Lent names) w = onto (written_names t (refer_to inside) names.now) w
open_left t inside (Members members) w = members_of t inside members.value w

-- The names are below the count; where members are left, their sizes are at most the greatest int, and the place of a length
-- is in the output.
abbrev pub OpenFits : ℕ → OpenSlice → List ℕ → Type 0
OpenFits count Nothing out = Unit {0}
OpenFits count (Found next names) out = AreBelow count (drop next names) × (length names < 2 ^ 31)
OpenFits count (Lent names) out = AreBelow count names.now
OpenFits count (Members members) out = RemainingFits (remaining members.value.writer) out
