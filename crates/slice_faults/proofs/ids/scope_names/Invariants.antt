use Rattle.std.proofs.Common.{◌≡◌, ◌≤◌, ◌++◌, length, map}
use Rattle.slice_meaning.specs.Numbers.{scope_at}
use Rattle.slice_faults.proofs.ids.scope_names.Given as goal

abbrev pub invariant-loop-scope : goal.invariant-loop-scope
invariant-loop-scope l = (l.scope ≤ length l.known.names) × (map (λ name. name.now) l.names.items ++ scope_at l.known.names l.scope ≡ scope_at l.known.names l.known.scope)

abbrev pub decreases-loop-scope : goal.decreases-loop-scope
decreases-loop-scope l = l.scope
