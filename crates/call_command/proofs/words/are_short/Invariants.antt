use Rattle.std.proofs.Common.{take}
use Rattle.std.specs.List.{All}
use Rattle.node_commands.specs.Words.{IsWord, words_of}
use Rattle.call_command.proofs.words.are_short.Given as goal

abbrev pub invariant-loop-word : goal.invariant-loop-word
invariant-loop-word l = All IsWord (words_of (take l.word-index l.words))
