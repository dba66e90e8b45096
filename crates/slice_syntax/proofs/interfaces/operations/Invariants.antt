use Rattle.std.proofs.Common.{◌≡◌, ◌++◌, length}
use Rattle.slice_syntax.specs.Grammar.{many}
use Rattle.slice_syntax.specs.Reading.{read, gather}
use Rattle.slice_syntax.specs.Rules.{operation, operations}
use Rattle.slice_syntax.proofs.interfaces.operations.Given as goal

abbrev pub invariant-loop-alloc : goal.invariant-loop-alloc
invariant-loop-alloc l = gather (λ ys. l.ops ++ ys) (read (many operation) l.cursor) ≡ read operations l.fn.cursor

abbrev pub decreases-loop-alloc : goal.decreases-loop-alloc
decreases-loop-alloc l = length l.cursor
