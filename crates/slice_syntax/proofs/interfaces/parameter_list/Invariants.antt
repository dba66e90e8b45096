use Rattle.std.proofs.Common.{◌≡◌, ◌++◌, length}
use Rattle.slice_syntax.specs.Grammar.{many, one, ◌▸◌}
use Rattle.slice_syntax.specs.Reading.{read, gather}
use Rattle.slice_syntax.specs.Terminals.{comma}
use Rattle.slice_syntax.specs.Rules.{parameter, parameter_list}
use Rattle.slice_syntax.proofs.interfaces.parameter_list.Given as goal

abbrev pub invariant-loop-alloc : goal.invariant-loop-alloc
invariant-loop-alloc l = gather (λ ys. l.params ++ ys) (read (many (one comma ▸ parameter)) l.cursor) ≡ read parameter_list l.fn.cursor

abbrev pub decreases-loop-alloc : goal.decreases-loop-alloc
decreases-loop-alloc l = length l.cursor
