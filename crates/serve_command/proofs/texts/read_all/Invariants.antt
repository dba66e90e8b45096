use Rattle.serve_command.specs.Adapters.{Breaks}
use Rattle.serve_command.specs.Words.{objects_of}
use Rattle.serve_command.proofs.Loops.{NeverBefore}
use Rattle.serve_command.proofs.texts.read_all.Given as goal

abbrev pub invariant-loop-object : goal.invariant-loop-object
invariant-loop-object l = NeverBefore Breaks (objects_of l.objects) l.object-index
