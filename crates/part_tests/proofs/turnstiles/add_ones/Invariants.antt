use Rattle.turnstile.specs.Passes.{IsPassOf}
use Rattle.part_tests.proofs.turnstiles.add_ones.Given as goal

abbrev pub invariant-loop : goal.invariant-loop
invariant-loop g l = IsPassOf l.stile l.pass
