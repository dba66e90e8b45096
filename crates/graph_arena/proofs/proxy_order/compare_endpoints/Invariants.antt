use Rattle.std.proofs.Common.{◌≡◌, ◌≤◌, drop, length}
use Rattle.std.specs.Cmp.Lexicographic.{slice_cmp}
use Rattle.ice_encoding.specs.Proxies.{endpoint_cmp}
use Rattle.graph_arena.proofs.proxy_order.compare_endpoints.Given as goal

abbrev pub invariant-loop-at : goal.invariant-loop-at
invariant-loop-at l = record {
  within : l.at ≤ length l.b;
  rest : slice_cmp endpoint_cmp l.a l.b ≡ slice_cmp endpoint_cmp (drop l.at l.a) (drop l.at l.b);
}
