use Rattle.std.proofs.Common.{◌≡◌, replicate}
use Rattle.call_command.proofs.messages.push_calls.Given as goal

abbrev pub invariant-loop : goal.invariant-loop
invariant-loop l = l.calls ≡ replicate l.counter l.call
