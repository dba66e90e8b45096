use Rattle.std.proofs.Common.{◌≡◌, ℕ, ◌+◌, ◌<◌, ◌≤◌, [], length}
use Rattle.std.specs.Prelude.{slice_index_or, vec_capacity}
use Rattle.dispatch_pool.specs.Lanes.{AreOf}
use Rattle.dispatch_pool.specs.Shares.{parts_at, all_parts}
use Rattle.dispatch_pool.specs.Sessions.{callers, split_off, ServedWith, HasServed}
use Rattle.dispatch_pool.proofs.serving.hire.Given as goal

abbrev pub invariant-loop-i : goal.invariant-loop-i
invariant-loop-i g l =
    AreOf l.lanes l.passes
    × ServedWith callers g.O.Opening.passes l.passes []
    × (l.rest.parts + l.i ≡ l.initial.rest.parts)
    × (l.rest.amount ≡ 0)
    × (length l.workers.items ≡ l.i)
    × (l.count ≤ vec_capacity l.workers)
    × ((i : ℕ) (d : _) → i < length l.workers.items → HasServed split_off l.lanes l.messages g.O.Opening.first g.O.Opening.passes (g.D.Tray.Tray.told (slice_index_or l.workers.items i d).tray) (slice_index_or l.workers.items i d).passes
    (slice_index_or l.workers.items i d).mine.amount (slice_index_or l.workers.items i d).starved)
    × ((i : ℕ) (d : _) → i < length l.workers.items → (slice_index_or l.workers.items i d).mine.parts ≡ 1)
    × ((i k : ℕ) → parts_at l.passes i k + all_parts l.workers.items (λ w. w.passes) i k ≡ parts_at l.initial.passes i k)
