use Rattle.canonical_inputs.proofs.Walked.{Kept}
use Rattle.canonical_inputs.proofs.walk.is_canonical_instance.Given as goal

abbrev pub invariant-loop : goal.invariant-loop
invariant-loop l = Kept l.schema l.fn.declared l.content l.below.items l.top l.met l.at
