use Rattle.std.proofs.Common.{◌≡◌, ◌+◌, ◌≤◌, length, drop}
use Rattle.encaps_optionals.specs.Usable.{usable}
use Rattle.encaps_optionals.proofs.tcp.usable_count.Given as goal

abbrev pub invariant-loop-endpoint : goal.invariant-loop-endpoint
invariant-loop-endpoint l = record {
  so_far : l.count + length (usable (drop l.endpoint-index l.endpoints)) ≡ length (usable l.fn.endpoints);
  few : l.count ≤ l.endpoint-index;
}
