use Rattle.std.proofs.Common.{◌≡◌, ◌≤◌, length, drop}
use Rattle.slice_meaning.specs.After.{with_entries}
use Rattle.slice_meaning.specs.Numbers.{scope_at}
use Rattle.slice_faults.specs.Held.{AreFree}
use Rattle.slice_faults.proofs.enums.declare_entries.Given as goal

abbrev pub invariant-loop-entry : goal.invariant-loop-entry
invariant-loop-entry l = (scope_at l.names l.inside ≡ scope_at l.fn.names l.inside)
    × (length l.fn.names ≤ length l.names)
    × AreFree l.file l.at (scope_at l.fn.names l.inside) (drop l.entry-index l.entries) l.names
    × (with_entries l.file l.at (scope_at l.fn.names l.inside) (drop l.entry-index l.entries) l.names ≡ with_entries l.file l.at (scope_at l.fn.names l.inside) l.entries l.fn.names)
