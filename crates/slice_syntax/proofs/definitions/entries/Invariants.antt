use Rattle.std.proofs.Common.{◌≡◌, true, List, ◌++◌, length, map}
use Rattle.slice_syntax.specs.Reading.{read, starts, starts_where, runs_at, gather}
use Rattle.slice_syntax.specs.Rules.{Entry, entry_comma, entries}
use Rattle.slice_syntax.proofs.definitions.entries.Given as goal

abbrev pub invariant-loop-goes_on : goal.invariant-loop-goes_on
invariant-loop-goes_on l =
    gather (λ (ys : List Entry). l.entries ++ map (λ (e : Entry). e.0) ys)
    (runs_at (starts_where (starts entry_comma)) (λ t. read entry_comma) (λ t (x : Entry). x.1) (λ t. true) (length l.cursor) l.goes_on l.cursor)
    ≡ read entries l.fn.cursor

abbrev pub decreases-loop-goes_on : goal.decreases-loop-goes_on
decreases-loop-goes_on l = length l.cursor
