use Rattle.std.proofs.Common.{ℕ, ◌≡◌, ◌≤◌, drop}
use Rattle.ice_types.specs.Measures.{measure, measure_members}
use Rattle.slice_meaning.specs.Faults.{struct_limits}
use Rattle.slice_faults.specs.Held.{known_of, limits_from}
use Rattle.slice_faults.proofs.structs.limit.Given as goal

abbrev pub invariant-loop-member : goal.invariant-loop-member
invariant-loop-member l = ((place : ℕ) → limits_from place l.smallest (measure_members (measure (known_of l.known).tables 99) (drop l.member-index l.members)) ≡ struct_limits place (measure_members (measure (known_of l.known).tables 99) l.members))
    × (l.smallest ≤ 1048577)
