use Rattle.std.proofs.Common.{◌≡◌}
use Rattle.slice_check.specs.Standing.{Stands, stack, work}
use Rattle.slice_check.proofs.walk.walk_from.Given as goal

abbrev pub invariant-loop-user : goal.invariant-loop-user
invariant-loop-user g l = record {
  stands : Stands (g.H.Shelf.files l.fn.shelf) l.fn.name l.walk (stack l.walk);
  files : g.H.Shelf.files l.shelf ≡ g.H.Shelf.files l.fn.shelf;
  count : g.H.Shelf.failures l.shelf ≡ g.H.Shelf.failures l.fn.shelf;
}

abbrev pub decreases-loop-user : goal.decreases-loop-user
decreases-loop-user g l = work l.walk
