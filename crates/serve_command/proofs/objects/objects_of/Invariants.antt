use Rattle.std.proofs.Common.{◌≡◌, map, take}
use Rattle.std.specs.List.{AllByRecursion}
use Rattle.node_commands.specs.Words.{words_of}
use Rattle.serve_command.specs.ObjectWords.{object_word, IsCut}
use Rattle.serve_command.specs.Words.{objects_of}
use Rattle.serve_command.proofs.objects.objects_of.Given as goal

abbrev pub invariant-loop-word : goal.invariant-loop-word
invariant-loop-word l = (words_of (take l.word-index l.words) ≡ map object_word (objects_of l.objects.items)) × AllByRecursion IsCut (objects_of l.objects.items)
