use Rattle.std.proofs.Common.{◌≡◌, ◌++◌, length}
use Rattle.slice_syntax.specs.Grammar.{many, one, ◌▸◌}
use Rattle.slice_syntax.specs.Reading.{read, gather}
use Rattle.slice_syntax.specs.Terminals.{colons}
use Rattle.slice_syntax.specs.Rules.{name, names}
use Rattle.slice_syntax.proofs.words.names.Given as goal

abbrev pub invariant-loop-alloc : goal.invariant-loop-alloc
invariant-loop-alloc l = gather (λ ys. (l.names ++ ys, l.first.place)) (read (many (one colons ▸ name)) l.cursor) ≡ read names l.fn.cursor

abbrev pub decreases-loop-alloc : goal.decreases-loop-alloc
decreases-loop-alloc l = length l.cursor
