use Rattle.std.proofs.Common.{◌≡◌, ℕ, ◌≤◌, drop, get_or}
use Rattle.std.specs.Vec.Iter.{into_iter_items}
use Rattle.dispatch_pool.specs.Abreast.{AllThree}
use Rattle.dispatch_pool.specs.Rows.{HasJoined}
use Rattle.dispatch_pool.specs.Lanes.{AreOf, Stile}
use Rattle.dispatch_pool.proofs.lanes.Lanes.join.Given as goal

abbrev pub invariant-loop-i : goal.invariant-loop-i
invariant-loop-i l =
    AreOf l.self l.passes
    × (into_iter_items l.others ≡ drop l.i l.fn.other.passes.items)
    × AllThree (λ k p r q. (t : Stile) → HasJoined (get_or l.self.stiles.items k t) p r q) l.i l.initial.passes.passes.items l.fn.other.passes.items l.passes.passes.items
    × ((k : ℕ) (d : _) → l.i ≤ k → get_or l.passes.passes.items k d ≡ get_or l.initial.passes.passes.items k d)
