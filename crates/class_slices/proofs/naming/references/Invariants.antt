use Rattle.std.proofs.Common.{◌≡◌, map, take, Some}
use Rattle.ice_encoding.specs.Tree.{reference}
use Rattle.graph_arena.specs.View.{view}
use Rattle.class_slices.proofs.naming.references.Given as goal

abbrev pub invariant-loop-name : goal.invariant-loop-name
invariant-loop-name l = map view l.values ≡ map (λ n. reference (Some n)) (take l.name-index l.names)
