use Rattle.std.proofs.Common.{◌≡◌, ◌+◌, ◌^◌, ◌<◌, length, drop}
use Rattle.std.specs.List.{flat_map}
use Rattle.ice_encoding.specs.Parts.{both, text}
use Rattle.ice_messages.specs.Written.{told}
use Rattle.ice_messages.proofs.lengths.entries_length.Given as goal

-- the bytes so far and those of the entries that are left
abbrev pub invariant-loop-name : goal.invariant-loop-name
invariant-loop-name l = record {
  so_far : told (l.length + length (flat_map (both text text).put (drop l.name-index l.entries))) ≡ told (length (flat_map (both text text).put l.fn.entries));
  fits : l.length < 2 ^ 64;
}
