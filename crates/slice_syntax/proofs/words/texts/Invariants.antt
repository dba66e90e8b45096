use Rattle.std.proofs.Common.{◌≡◌, length}
use Rattle.slice_syntax.specs.declared.terminal.Terminal.TheVariants as terminals
use Rattle.slice_syntax.specs.Grammar.{many, one, ◌▸◌}
use Rattle.slice_syntax.specs.Reading.{read, gather}
use Rattle.slice_syntax.specs.Terminals.{comma}
use Rattle.slice_syntax.specs.Rules.{texts}
use Rattle.slice_syntax.proofs.words.texts.Given as goal

abbrev pub invariant-loop-cursor : goal.invariant-loop-cursor
invariant-loop-cursor l = gather (λ ys. tt) (read (many (one comma ▸ one terminals.Text)) l.cursor) ≡ read texts l.fn.cursor

abbrev pub decreases-loop-cursor : goal.decreases-loop-cursor
decreases-loop-cursor l = length l.cursor
