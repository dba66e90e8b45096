use Rattle.std.proofs.Common.{◌≡◌, ◌≤◌, length, drop}
use Rattle.std.specs.Prelude.{vec_capacity}
use Rattle.std.specs.Vec.Iter.{into_iter_items}
use Rattle.dispatch_pool.specs.Abreast.{Both}
use Rattle.dispatch_pool.specs.Rows.{RowFits}
use Rattle.dispatch_pool.specs.Lanes.{Begins, RowIsNew, RowIsWhole}
use Rattle.dispatch_pool.proofs.lanes.Lanes.seat_all.Given as goal

abbrev pub invariant-loop-i : goal.invariant-loop-i
invariant-loop-i l =
    Both Begins l.i (into_iter_items l.initial.servants) l.stiles.items
    × RowFits l.stiles.items l.passes.items
    × RowIsNew l.passes.items
    × RowIsWhole l.passes.items
    × (into_iter_items l.servants ≡ drop l.i (into_iter_items l.initial.servants))
    × (length l.stiles.items ≡ l.i)
    × (length l.passes.items ≡ l.i)
    × (l.count ≤ vec_capacity l.stiles)
    × (l.count ≤ vec_capacity l.passes)
