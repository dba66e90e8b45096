use Rattle.std.proofs.Common.{◌≡◌, ℕ, ◌≤◌, List, [], ◌++◌, drop}
use Rattle.slice_meaning.specs.Members.{entry_faults, entries_of}
use Rattle.slice_meaning.specs.Checking.{noted}
use Rattle.slice_faults.specs.Held.{HoldsNumbers, known_of}
use Rattle.slice_faults.proofs.enums.note_entries.Given as goal

abbrev pub invariant-loop-entry : goal.invariant-loop-entry
invariant-loop-entry l = (before : List ℕ) × HoldsNumbers l.numbers.numbers before
    × (noted l.found.first (entry_faults (known_of l.known) l.next before (drop l.entry-index l.entries)) ≡ noted l.fn.found.first (entry_faults (known_of l.known) 0 [] l.entries))
    × (l.rows ++ entries_of (known_of l.known) l.next (drop l.entry-index l.entries) ≡ entries_of (known_of l.known) 0 l.entries)
    × (l.next ≤ 2147483648)
