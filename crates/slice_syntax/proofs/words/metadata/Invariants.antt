use Rattle.std.proofs.Common.{◌≡◌, length}
use Rattle.slice_syntax.specs.Grammar.{many, one, ◌▸◌}
use Rattle.slice_syntax.specs.Reading.{read, gather}
use Rattle.slice_syntax.specs.Terminals.{open_square, close_square}
use Rattle.slice_syntax.specs.Rules.{texts, metadata}
use Rattle.slice_syntax.proofs.words.metadata.Given as goal

abbrev pub invariant-loop-cursor : goal.invariant-loop-cursor
invariant-loop-cursor l = gather (λ ys. tt) (read (many (one open_square ▸ texts ▸ one close_square)) l.cursor) ≡ read metadata l.fn.cursor

abbrev pub decreases-loop-cursor : goal.decreases-loop-cursor
decreases-loop-cursor l = length l.cursor
