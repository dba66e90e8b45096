use Rattle.std.proofs.Common.{◌≡◌, ◌+◌, ◌*◌, map, take}
use Rattle.graph_arena.specs.View.{view}
use Rattle.value_checks.specs.Zeros.{zero_of}
use Rattle.value_checks.proofs.zeros.+zeros.Given as goal

abbrev pub decreases-zero_at : goal.decreases-zero_at
decreases-zero_at l = 3 * l.levels

abbrev pub decreases-zero_form : goal.decreases-zero_form
decreases-zero_form l = 3 * l.levels + 2

abbrev pub decreases-zeros : goal.decreases-zeros
decreases-zeros l = 3 * l.levels + 1

abbrev pub invariant-zeros-loop-member : goal.invariant-zeros-loop-member
invariant-zeros-loop-member l = map view l.values.items ≡ map (λ m. zero_of l.schema l.levels m.kind) (take l.member-index l.members)
