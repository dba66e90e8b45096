use Rattle.std.proofs.Common.{◌≡◌, ◌≤◌, length, vec_len, drop}
use Rattle.std.specs.Vec.Iter.{into_iter_items}
use Rattle.std.specs.Prelude.{vec_capacity}
use Rattle.dispatch_pool.specs.Ends.{ClosesBelow}
use Rattle.dispatch_pool.proofs.lanes.Lanes.close_all.Given as goal

abbrev pub invariant-loop-i : goal.invariant-loop-i
invariant-loop-i l =
    (into_iter_items l.stiles ≡ drop l.i l.fn.stiles.items)
    × (into_iter_items l.passes ≡ drop l.i l.fn.passes.items)
    × ClosesBelow l.i l.fn.stiles.items l.fn.passes.items l.servants.items
    × (length l.servants.items ≡ l.i)
    × (vec_len l.fn.stiles ≤ vec_capacity l.servants)
