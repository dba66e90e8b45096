use Rattle.std.specs.Prelude.{◌≡◌, ◌↔◌}
use Rattle.ice_types.specs.Inherited.{IsA}
use Rattle.ice_types.specs.Kept.{above_of}
use Rattle.ice_types.proofs.inheritance.derives_from.Given as goal

abbrev pub invariant-loop-here : goal.invariant-loop-here
invariant-loop-here l =
    (l.here ≡ above_of l.rows.beside l.at)
    × (l.wanted ≡ (above_of l.rows.beside l.base).bases)
    × (IsA l.rows.decls l.at l.base ↔ IsA l.rows.decls l.fn.class l.base)

abbrev pub decreases-loop-here : goal.decreases-loop-here
decreases-loop-here l = l.here.bases
