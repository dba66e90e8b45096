use Rattle.std.proofs.Common.{◌≡◌, ◌≤◌, ◌+◌, drop}
use Rattle.std.specs.Prelude.{nat_lt, sum_by}
use Rattle.slice_meaning.specs.Faults.{base_count}
use Rattle.slice_faults.specs.Held.{known_of}
use Rattle.slice_faults.proofs.interfaces.has_too_many.Given as goal

abbrev pub invariant-loop-path : goal.invariant-loop-path
invariant-loop-path l = (nat_lt 1000 (l.count + sum_by (base_count (known_of l.known)) (drop l.path-index l.bases)) ≡ nat_lt 1000 (sum_by (base_count (known_of l.known)) l.bases))
    × (l.count ≤ 1001)
