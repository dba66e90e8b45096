use Rattle.std.proofs.Common.{◌≡◌, ◌++◌, drop}
use Rattle.std.specs.List.{flat_map}
use Rattle.ice_prims.specs.Bytes.{Grows}
use Rattle.ice_encoding.specs.Parts.{Each}
use Rattle.ice_encoding.specs.Endpoint.{endpoint, EndpointHasSize}
use Rattle.encaps_optionals.proofs.write.append_endpoints.Given as goal

-- what was put, and the bytes of the endpoints that are left
abbrev pub invariant-loop-endpoint : goal.invariant-loop-endpoint
invariant-loop-endpoint l = record {
  so_far : l.out.items ++ flat_map endpoint.put (drop l.endpoint-index l.endpoints) ≡ l.fn.out.items ++ flat_map endpoint.put l.fn.endpoints;
  grown : Grows l.fn.out.items l.out.items;
  sizes : Each EndpointHasSize (drop l.endpoint-index l.endpoints);
}
