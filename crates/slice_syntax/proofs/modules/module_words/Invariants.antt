use Rattle.std.proofs.Common.{◌≡◌, ◌++◌, length}
use Rattle.slice_syntax.specs.Grammar.{many, one, parted, ◌▸◌}
use Rattle.slice_syntax.specs.Reading.{read, gather}
use Rattle.slice_syntax.specs.Terminals.{colons}
use Rattle.slice_syntax.specs.Rules.{word}
use Rattle.slice_syntax.specs.Files.{enters}
use Rattle.slice_syntax.proofs.modules.module_words.Given as goal

abbrev pub invariant-loop-alloc : goal.invariant-loop-alloc
invariant-loop-alloc l =
    gather (λ ws. l.items ++ enters ws) (read (many (one colons ▸ word)) l.cursor) ≡ gather (λ ws. l.fn.items ++ enters ws) (read (parted colons word) l.fn.cursor)

abbrev pub decreases-loop-alloc : goal.decreases-loop-alloc
decreases-loop-alloc l = length l.cursor
