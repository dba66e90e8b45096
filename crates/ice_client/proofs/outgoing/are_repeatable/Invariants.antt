use Rattle.std.proofs.Common.{drop}
use Rattle.std.specs.Prelude.{◌↔◌}
use Rattle.ice_encoding.specs.Parts.{Each}
use Rattle.ice_client.specs.Sending.{IsRepeatable}
use Rattle.ice_client.proofs.outgoing.are_repeatable.Given as goal

-- what is left decides
abbrev pub invariant-loop-call : goal.invariant-loop-call
invariant-loop-call l = Each IsRepeatable (drop l.call-index l.calls) ↔ Each IsRepeatable l.fn.calls
