-- What sorting answers and leaves.
use Rattle.std.specs.Prelude.{Bool, true, false, ◌≡◌, List, Option, None, Some, Result, Ok, Err}
use Rattle.std.specs.declared.alloc.AllocError.{AllocError}
use Rattle.ice_encoding.specs.Tree.{Trees, Entries, no_entry}
use Rattle.graph_arena.specs.declared.value.Value.{Value}
use Rattle.value_writing.specs.Sorted.{sorted, sorted_each, sorted_onto, has_equal_keys, some_has_equal_keys, have_equal_keys}
use Rattle.graph_arena.specs.View.{view, view_all, view_pairs}
use Rattle.std.specs.BTreeMap.{BTreeMap}

-- Done: the value is sorted. Refused, where keys are equal, or out of memory: it is as it was.
abbrev pub Sorts : Value → Value → Result Bool AllocError → Type 0
Sorts old new (Ok true) = (has_equal_keys (view old) ≡ false) × (view new ≡ sorted (view old))
Sorts old new (Ok false) = (has_equal_keys (view old) ≡ true) × (new ≡ old)
Sorts old new (Err e) = new ≡ old

-- what was wanted, or none where keys are equal
abbrev pub UnlessEqual : {X Y : Type 0} → (X → Y) → Bool → Y → Option X → Type 0
UnlessEqual view equal wanted (Some x) = (equal ≡ false) × (view x ≡ wanted)
UnlessEqual view equal wanted None = equal ≡ true

-- the items with their dictionaries in order, or none where keys are equal
abbrev pub SortsEach : Trees → Option (List Value) → Type 0
SortsEach items result = UnlessEqual view_all (some_has_equal_keys items) (sorted_each items) result

-- the pairs in the order of their keys, or none where keys are equal
abbrev pub SortsPairs : Entries → Option (BTreeMap Value Value) → Type 0
SortsPairs pairs result = UnlessEqual (λ m. view_pairs m.entries) (have_equal_keys pairs) (sorted_onto no_entry pairs) result
