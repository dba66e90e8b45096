-- How much there is left to do, so that reading ends: more than any value inside a value wants.
use Rattle.std.specs.Prelude.{ℕ, zero, suc, ◌+◌, ◌*◌, ◌^◌, List, [], ◌∷◌, length, Option, None, Some}
use Rattle.ice_types.specs.declared.declarations.StructDecl.{StructDecl}
use Rattle.ice_types.specs.Tables.{Tables}
use Rattle.ice_encoding.specs.Tree.{Tree}
use Rattle.ice_values.specs.declared.frame.Part.{Part}
use Rattle.ice_values.specs.declared.frame.Part.TheVariants.{Next, Begun, Equal}
use Rattle.ice_values.specs.declared.frame.Frame.{Frame}
use Rattle.ice_values.specs.declared.reader.ValueReader.{ValueReader}
use Rattle.ice_values.specs.Frames.{Open, each, pairs, opened, kinds_left}

-- how many members the structs have together
abbrev pub members_in : List StructDecl → ℕ
members_in [] = 0
members_in (d ∷ ds) = length d.members + members_in ds

-- more than any value has parts, where a pair is two
unfoldable pub width : Tables → ℕ
width t = 2 ^ 33 + members_in t.structs

-- more than a value wants that nests at most so deep
unfoldable pub weight : Tables → ℕ → ℕ
weight t zero = 1
weight t (suc levels) = 2 + width t * weight t levels

-- Of a pair that has begun: 1 until its value begins. One whose key is there already never ends, and counts too.
abbrev pub value_waits : Part → Option Tree → ℕ
value_waits Next None = 0
value_waits Next (Some k) = 1
value_waits (Begun at) None = 1
value_waits (Begun at) (Some k) = 0
value_waits (Equal at) waits = 1

unfoldable pub open_wants : Tables → Open → ℕ
open_wants t (each sort levels left had) = 1 + length (kinds_left t left) * weight t levels
open_wants t (pairs levels key value left part waits had) = 1 + (2 * left + value_waits part waits) * weight t levels

-- how much the parts of a value that has begun ask for
abbrev pub wants : Tables → Frame → ℕ
wants t f = open_wants t (opened f)

abbrev pub frames_cost : Tables → List Frame → ℕ
frames_cost t [] = 0
frames_cost t (f ∷ fs) = wants t f + frames_cost t fs

-- how much a reader has left to do, so that reading ends
abbrev pub cost : Tables → ValueReader → ℕ
cost t reader = wants t reader.top + frames_cost t reader.below
