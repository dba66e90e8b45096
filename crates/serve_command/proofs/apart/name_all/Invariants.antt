use Rattle.std.proofs.Common.{◌≡◌, map, take}
use Rattle.serve_command.specs.ObjectWords.{named_by, Differ}
use Rattle.serve_command.specs.Words.{objects_of}
use Rattle.serve_command.proofs.apart.name_all.Given as goal

abbrev pub invariant-loop-object : goal.invariant-loop-object
invariant-loop-object l = (l.names.items ≡ map named_by (objects_of (take l.object-index l.objects))) × Differ l.names.items
