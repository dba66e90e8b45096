use Rattle.std.proofs.Common.{take}
use Rattle.object_adapter.specs.Places.{no_places}
use Rattle.serve_command.specs.Adapters.{Puts}
use Rattle.serve_command.specs.Words.{objects_of}
use Rattle.serve_command.proofs.Walking.{Walks}
use Rattle.serve_command.proofs.places.put_all.Given as goal

abbrev pub invariant-loop-object : goal.invariant-loop-object
invariant-loop-object l = Walks Puts (objects_of (take l.object-index l.objects)) no_places l.places
