use Rattle.std.proofs.Common.{◌≤◌, ◌-◌, length}
use Rattle.slice_lexer.specs.Lexing.{ReadsTokens}
use Rattle.slice_lexer.proofs.lexer.tokens.Given as goal

abbrev pub invariant-loop-at : goal.invariant-loop-at
invariant-loop-at l = ReadsTokens l.text l.items.items l.at × (l.at ≤ length l.text)

abbrev pub decreases-loop-at : goal.decreases-loop-at
decreases-loop-at l = length l.text - l.at
