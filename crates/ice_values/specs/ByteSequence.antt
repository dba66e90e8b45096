-- A sequence of bytes, read at once.
use Rattle.std.specs.Prelude.{ℕ, ◌≡◌, ◌+◌, List, length, take, Some, Result, Ok, nat_lt, slice_get, if◌then◌else◌}
use Rattle.std.specs.Option.{option_map}
use Rattle.ice_types.specs.declared.kind.TypeRef.TheVariants as kinds
use Rattle.ice_types.specs.Tables.{Tables}
use Rattle.ice_prims.specs.declared.fault.Fault.{Fault}
use Rattle.ice_prims.specs.declared.fault.Kind.TheVariants.{Short}
use Rattle.ice_prims.specs.Number.{size_at}
use Rattle.ice_prims.specs.Rest.{Rest, fault, ◌>>=◌, after}
use Rattle.ice_encoding.specs.Tree.{Tree, sequence}
use Rattle.graph_arena.specs.View.{byte_trees}

-- the sequence at this place has bytes as its items
abbrev pub HasByteItems : Tables → ℕ → Type 0
HasByteItems t at = option_map (λ q. q.element) (slice_get t.seqs at) ≡ Some kinds.Byte

-- So many bytes, one after the other. Where fewer are left, the fault is at the first one that lacks.
abbrev pub each_byte_at : ℕ → Rest → Result (List ℕ × Rest) Fault
each_byte_at n r = if nat_lt (length r.bytes) n then fault (r.place + length r.bytes) Short else Ok (take n r.bytes, after r n)

-- a size, and so many bytes
abbrev pub byte_sequence_at : Rest → Result (Tree × Rest) Fault
byte_sequence_at r = do
  n ← size_at r
  b ← each_byte_at n.0 n.1
  Ok (sequence (byte_trees b.0), b.1)
