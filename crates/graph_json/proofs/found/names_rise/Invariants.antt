use Rattle.std.proofs.Common.{◌-◌, ◌+◌, ◌≡◌, true, length, ℕ, get_or, ◌<◌, ◌≤◌, nat_cmp, is_lt}
use Rattle.std.specs.Cmp.Lexicographic.{slice_cmp}
use Rattle.graph_json.specs.View.{Entry}
use Rattle.graph_json.proofs.found.names_rise.Given as goal

-- each name before the place is below the next
abbrev pub invariant-loop-at : goal.invariant-loop-at
invariant-loop-at l = (1 ≤ l.at)
    × ((k : ℕ) (e : Entry) → k + 1 < l.at → k + 1 < length l.entries → is_lt (slice_cmp nat_cmp (get_or l.entries k e).0.now (get_or l.entries (k + 1) e).0.now) ≡ true)

abbrev pub decreases-loop-at : goal.decreases-loop-at
decreases-loop-at l = length l.entries - l.at
