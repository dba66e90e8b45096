use Rattle.std.proofs.Common.{◌↔◌, drop}
use Rattle.ice_encoding.specs.Parts.{Each}
use Rattle.ice_encoding.specs.Endpoint.{endpoint_to}
use Rattle.value_checks.proofs.proxies.are_endpoints.Given as goal

abbrev pub invariant-loop-endpoint : goal.invariant-loop-endpoint
invariant-loop-endpoint l = Each (endpoint_to l.most).Is l.endpoints ↔ Each (endpoint_to l.most).Is (drop l.endpoint-index l.endpoints)
