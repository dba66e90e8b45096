use Rattle.std.proofs.Common.{◌≡◌, ◌*◌, map}
use Rattle.std.specs.List.{range_with_len}
use Rattle.graph_arena.specs.Seen.{view_instance}
use Rattle.ice_relay.specs.Drawn.{after, node}
use Rattle.ice_relay.proofs.drawing.nodes.Given as goal

abbrev pub invariant-loop : goal.invariant-loop
invariant-loop l = record {
  stands : l.generator.number ≡ after l.fn.start (6 * l.counter);
  drawn : map view_instance l.nodes.items ≡ map (λ at. node l.count (after l.fn.start (6 * at))) (range_with_len 0 l.counter);
}
