use Rattle.std.proofs.Common.{ℕ, [], drop, List, ◌↔◌}
use Rattle.ice_types.specs.Names.{AreNew, HoldsNames}
use Rattle.ice_types.specs.Fits.{names_of}
use Rattle.ice_types.proofs.own_names.have_own_names.Given as goal

abbrev pub invariant-loop-member : goal.invariant-loop-member
invariant-loop-member l = (before : List (List ℕ)) × HoldsNames l.names before × (AreNew [] (names_of l.members) ↔ AreNew before (names_of (drop l.member-index l.members)))
