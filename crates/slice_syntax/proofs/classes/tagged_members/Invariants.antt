use Rattle.std.proofs.Common.{◌≡◌, ◌++◌, length}
use Rattle.slice_syntax.specs.Grammar.{many}
use Rattle.slice_syntax.specs.Reading.{read, gather}
use Rattle.slice_syntax.specs.Rules.{tagged_member, tagged_members}
use Rattle.slice_syntax.proofs.classes.tagged_members.Given as goal

abbrev pub invariant-loop-alloc : goal.invariant-loop-alloc
invariant-loop-alloc l = gather (λ ys. l.fields ++ ys) (read (many tagged_member) l.cursor) ≡ read tagged_members l.fn.cursor

abbrev pub decreases-loop-alloc : goal.decreases-loop-alloc
decreases-loop-alloc l = length l.cursor
