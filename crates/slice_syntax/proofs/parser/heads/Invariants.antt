use Rattle.std.proofs.Common.{ℕ, ◌≡◌, Bool, List, ◌++◌, ◌||◌, length}
use Rattle.slice_syntax.specs.Grammar.{many}
use Rattle.slice_syntax.specs.Reading.{read, gather}
use Rattle.slice_syntax.specs.Files.{directive, directives, is_guarded, includes_in}
use Rattle.slice_syntax.proofs.parser.heads.Given as goal

abbrev pub invariant-loop-alloc : goal.invariant-loop-alloc
invariant-loop-alloc l =
    gather {B = Bool × List (List ℕ × ℕ)} (λ hs. (l.guarded || is_guarded hs, l.included ++ includes_in hs)) (read (many directive) l.cursor)
    ≡ gather {B = Bool × List (List ℕ × ℕ)} (λ hs. (is_guarded hs, l.fn.included ++ includes_in hs)) (read directives l.fn.cursor)

abbrev pub decreases-loop-alloc : goal.decreases-loop-alloc
decreases-loop-alloc l = length l.cursor
