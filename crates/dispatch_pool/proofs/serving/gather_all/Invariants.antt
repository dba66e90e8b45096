use Rattle.std.proofs.Common.{◌≡◌, false, ℕ, ◌+◌, ◌<◌, length, vec_len}
use Rattle.std.specs.Prelude.{slice_index_or}
use Rattle.dispatch_pool.specs.Lanes.{AreOf}
use Rattle.talking.specs.Told.{NoneToCome}
use Rattle.dispatch_pool.specs.Shares.{parts_at, all_parts}
use Rattle.dispatch_pool.specs.Sessions.{split_off, HasServed, AllServed}
use Rattle.dispatch_pool.proofs.serving.gather_all.Given as goal

abbrev pub invariant-loop-worker : goal.invariant-loop-worker
invariant-loop-worker g l =
    AreOf l.lanes l.passes
    × (g.D.Listener.failures l.listener ≡ g.D.Listener.failures l.initial.listener)
    × (g.D.Listener.nones l.listener ≡ g.D.Listener.nones l.initial.listener)
    × (NoneToCome (g.D.Listener.told l.initial.listener) → NoneToCome (g.D.Listener.told l.listener))
    × (l.mine.parts + length l.workers.items ≡ l.initial.mine.parts + length l.fn.workers.items)
    × ((i : ℕ) (d : _) → i < length l.workers.items → HasServed split_off l.lanes l.messages g.O.Opening.first g.O.Opening.passes (g.D.Tray.Tray.told (slice_index_or l.workers.items i d).tray) (slice_index_or l.workers.items i d).passes
    (slice_index_or l.workers.items i d).mine.amount (slice_index_or l.workers.items i d).starved)
    × ((i : ℕ) (d : _) → i < length l.workers.items → (slice_index_or l.workers.items i d).mine.parts ≡ 1)
    × ((given : ℕ) → AllServed l.lanes l.messages g.O.Opening.first g.O.Opening.passes given (g.D.Listener.told l.initial.listener) l.initial.passes l.initial.mine.amount l.initial.starved
    → AllServed l.lanes l.messages g.O.Opening.first g.O.Opening.passes given (g.D.Listener.told l.listener) l.passes l.mine.amount l.starved)
    × (l.starved ≡ false → l.initial.starved ≡ false)
    × ((i k : ℕ) → parts_at l.passes i k + all_parts l.workers.items (λ w. w.passes) i k ≡ parts_at l.initial.passes i k + all_parts l.fn.workers.items (λ w. w.passes) i k)

abbrev pub decreases-loop-worker : goal.decreases-loop-worker
decreases-loop-worker g l = vec_len l.workers
