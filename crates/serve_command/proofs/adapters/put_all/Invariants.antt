use Rattle.std.proofs.Common.{take}
use Rattle.std.specs.Arc.{arc_value}
use Rattle.object_adapter.specs.Objects.{no_objects}
use Rattle.serve_command.specs.Adapters.{Makes}
use Rattle.serve_command.specs.Words.{objects_of}
use Rattle.serve_command.proofs.Walking.{Walks}
use Rattle.serve_command.proofs.adapters.put_all.Given as goal

abbrev pub invariant-loop-object : goal.invariant-loop-object
invariant-loop-object l = Walks (Makes (arc_value l.schema) (objects_of l.objects)) (objects_of (take l.object-index l.objects)) no_objects l.adapter
