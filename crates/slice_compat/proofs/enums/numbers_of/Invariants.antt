use Rattle.std.proofs.Common.{◌≡◌, ℕ, take}
use Rattle.std.specs.BTreeSet.{contains}
use Rattle.std.specs.Ordering.{nat_cmp}
use Rattle.slice_compat.specs.Reading.{has_entry}
use Rattle.slice_compat.proofs.enums.numbers_of.Given as goal

-- the numbers of the entries before
abbrev pub invariant-loop-entry : goal.invariant-loop-entry
invariant-loop-entry l = (number : ℕ) → contains nat_cmp l.numbers number ≡ has_entry (take l.entry-index l.entries) number
