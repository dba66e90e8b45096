use Rattle.std.proofs.Common.{◌≡◌, ◌+◌, ◌^◌, ◌<◌, length, drop}
use Rattle.std.specs.List.{flat_map}
use Rattle.ice_messages.specs.Calls.{call}
use Rattle.ice_messages.specs.Written.{told}
use Rattle.ice_messages.proofs.lengths.calls_length.Given as goal

-- the bytes so far and those of the calls that are left
abbrev pub invariant-loop-call : goal.invariant-loop-call
invariant-loop-call l = record {
  so_far : told (l.length + length (flat_map call.put (drop l.call-index l.calls))) ≡ told (length (flat_map call.put l.fn.calls));
  fits : l.length < 2 ^ 64;
}
