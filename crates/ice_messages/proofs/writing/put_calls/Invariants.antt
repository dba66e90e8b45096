use Rattle.std.proofs.Common.{◌≡◌, ◌++◌, ◌≤◌, length, drop}
use Rattle.std.specs.List.{flat_map}
use Rattle.ice_encoding.specs.declared.limits.TheConstants.{LARGEST}
use Rattle.ice_encoding.specs.Parts.{Each}
use Rattle.ice_messages.specs.Calls.{call}
use Rattle.ice_messages.specs.Written.{IsWritableCall}
use Rattle.ice_messages.proofs.writing.put_calls.Given as goal

-- what was put, and the bytes of the calls that are left
abbrev pub invariant-loop-call : goal.invariant-loop-call
invariant-loop-call l = record {
  so_far : l.out.items ++ flat_map call.put (drop l.call-index l.items) ≡ l.fn.out.items ++ flat_map call.put l.fn.items;
  fits : length (flat_map call.put (drop l.call-index l.items)) ≤ LARGEST;
  writable : Each IsWritableCall (drop l.call-index l.items);
  each : Each call.Is (drop l.call-index l.items) → Each call.Is l.fn.items;
}
