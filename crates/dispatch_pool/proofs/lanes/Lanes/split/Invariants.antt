use Rattle.std.proofs.Common.{◌≡◌, ℕ, ◌≤◌, length, get_or}
use Rattle.std.specs.Prelude.{vec_capacity}
use Rattle.dispatch_pool.specs.Abreast.{Both, AllThree}
use Rattle.dispatch_pool.specs.Rows.{Fits, HasSplit}
use Rattle.dispatch_pool.specs.Lanes.{AreOf}
use Rattle.dispatch_pool.proofs.lanes.Lanes.split.Given as goal

abbrev pub invariant-loop-i : goal.invariant-loop-i
invariant-loop-i l =
    AreOf l.self l.passes
    × AllThree (λ k p r q. HasSplit p r q) l.i l.initial.passes.passes.items l.made.items l.passes.passes.items
    × ((k : ℕ) (d : _) → l.i ≤ k → get_or l.passes.passes.items k d ≡ get_or l.initial.passes.passes.items k d)
    × Both (λ k t p. Fits t p) l.i l.self.stiles.items l.made.items
    × (length l.made.items ≡ l.i)
    × (length l.self.stiles.items ≤ vec_capacity l.made)
