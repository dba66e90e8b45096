use Rattle.std.proofs.Common.{◌≡◌, take}
use Rattle.value_writing.proofs.proxy_copy.copy_endpoints.Given as goal

abbrev pub invariant-loop-endpoint : goal.invariant-loop-endpoint
invariant-loop-endpoint l = l.copies ≡ take l.endpoint-index l.endpoints
