use Rattle.std.proofs.Common.{◌≤◌, length, string_bytes, refl, arith}
use Rattle.std.proofs.lemmas.Bool.{false≢true}
use Rattle.node_commands.specs.declared.words.TheConstants.{MOST_OF_A_WORD}
use Rattle.call_command.proofs.Giving.{short_more, all_short, one_short}
use Rattle.call_command.proofs.words.are_short.Goals as goal

pub returns-then-len-gt-MOST_OF_A_WORD : goal.returns-then-len-gt-MOST_OF_A_WORD
returns-then-len-gt-MOST_OF_A_WORD c = (
  λ e. absurd (false≢true e),
  λ all. let fits : length (string_bytes c.word-item.result) ≤ MOST_OF_A_WORD = one_short c.args.words.now c.loop-word.word-index c.word-item.result (omega arith) c.word-item.is all in absurd (omega (arith, fits, c.len.ensures)),
)

pub loop-word-preserved : goal.loop-word-preserved
loop-word-preserved c = short_more c.args.words.now c.loop-word.word-index c.word-item.result (omega arith) c.word-item.is c.loop-word.invariant (omega (arith, c.len.ensures))

pub returns : goal.returns
returns c = (λ e. all_short c.args.words.now c.loop-word.word-index (omega arith) c.loop-word.invariant, λ all. refl)
