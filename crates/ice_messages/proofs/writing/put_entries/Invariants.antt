use Rattle.std.proofs.Common.{◌≡◌, ◌++◌, ◌≤◌, length, drop}
use Rattle.std.specs.List.{flat_map}
use Rattle.ice_encoding.specs.declared.limits.TheConstants.{LARGEST}
use Rattle.ice_encoding.specs.Parts.{Each, both, text}
use Rattle.ice_messages.proofs.writing.put_entries.Given as goal

-- what was put, and the bytes of the entries that are left
abbrev pub invariant-loop-name : goal.invariant-loop-name
invariant-loop-name l = record {
  so_far : l.out.items ++ flat_map (both text text).put (drop l.name-index l.pairs) ≡ l.fn.out.items ++ flat_map (both text text).put l.fn.pairs;
  fits : length (flat_map (both text text).put (drop l.name-index l.pairs)) ≤ LARGEST;
  each : Each (both text text).Is (drop l.name-index l.pairs) → Each (both text text).Is l.fn.pairs;
}
