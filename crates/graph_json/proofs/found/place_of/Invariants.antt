use Rattle.std.proofs.Common.{◌-◌, ◌≡◌, true, false, length, get_or, ◌<◌, ◌≤◌, nat_cmp, is_lt}
use Rattle.std.specs.Cmp.Lexicographic.{slice_cmp}
use Rattle.graph_json.specs.View.{Entry}
use Rattle.graph_json.proofs.found.place_of.Given as goal

-- the place lies from low to high
abbrev pub invariant-loop-low : goal.invariant-loop-low
invariant-loop-low l = (l.low ≤ l.high) × (l.high ≤ length l.entries)
    × ((e : Entry) → 0 < l.low → is_lt (slice_cmp nat_cmp (get_or l.entries (l.low - 1) e).0.now l.name) ≡ true)
    × ((e : Entry) → l.high < length l.entries → is_lt (slice_cmp nat_cmp (get_or l.entries l.high e).0.now l.name) ≡ false)

abbrev pub decreases-loop-low : goal.decreases-loop-low
decreases-loop-low l = l.high - l.low
