use Rattle.std.proofs.Common.{◌≡◌, ◌++◌}
use Rattle.slice_syntax.specs.Files.{exits}
use Rattle.slice_syntax.proofs.modules.leave.Given as goal

abbrev pub invariant-loop : goal.invariant-loop
invariant-loop l = l.items ≡ l.fn.items ++ exits l.counter
