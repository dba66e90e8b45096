use Rattle.std.proofs.Common.{◌≡◌, length, reverse}
use Rattle.slice_syntax.specs.Moving.{modules_at, resume}
use Rattle.slice_syntax.proofs.modules.modules.Given as goal

abbrev pub invariant-loop-names : goal.invariant-loop-names
invariant-loop-names l = resume l.items (reverse l.open_modules.items) l.cursor ≡ modules_at l.fn.cursor

abbrev pub decreases-loop-names : goal.decreases-loop-names
decreases-loop-names l = length l.cursor
