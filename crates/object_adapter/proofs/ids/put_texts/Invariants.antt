use Rattle.std.proofs.Common.{ℕ, ◌≡◌, List, ◌++◌, length, map, string_bytes}
use Rattle.std.specs.List.{flat_map}
use Rattle.ice_prims.specs.Bytes.{text_bytes}
use Rattle.object_adapter.proofs.ids.put_texts.Given as goal

-- what is put so far, and the bytes of those that are left, are all bytes
abbrev pub invariant-loop-text : goal.invariant-loop-text
invariant-loop-text l = (done : List ℕ) × (l.out.items ≡ l.fn.out.items ++ done)
    × (flat_map text_bytes (map string_bytes l.fn.texts.keys) ≡ done ++ flat_map text_bytes (map string_bytes l.texts.keys))

abbrev pub decreases-loop-text : goal.decreases-loop-text
decreases-loop-text l = length l.texts.keys
