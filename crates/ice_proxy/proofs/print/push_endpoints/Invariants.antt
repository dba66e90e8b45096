use Rattle.std.proofs.Common.{◌≡◌, ◌++◌, take, string_bytes}
use Rattle.ice_proxy.specs.Printed as spec
use Rattle.ice_proxy.proofs.print.push_endpoints.Given as goal

abbrev pub invariant-loop-endpoint : goal.invariant-loop-endpoint
invariant-loop-endpoint l = string_bytes l.out ≡ string_bytes l.initial.out ++ spec.printed_endpoints (take l.endpoint-index l.endpoints)
