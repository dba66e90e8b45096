use Rattle.serve_command.specs.Adapters.{LacksInterface}
use Rattle.serve_command.specs.Words.{objects_of}
use Rattle.serve_command.proofs.Loops.{NeverBefore}
use Rattle.serve_command.proofs.names.name_all.Given as goal

abbrev pub invariant-loop-object : goal.invariant-loop-object
invariant-loop-object l = NeverBefore (LacksInterface l.schema) (objects_of l.objects) l.object-index
