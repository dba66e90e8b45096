use Rattle.std.proofs.Common.{◌≡◌, false, length, ◌+◌}
use Rattle.slice_lexer.specs.Bytes.{string_length}
use Rattle.slice_lexer.proofs.runs.string_length.Given as goal

abbrev pub invariant-loop-rest : goal.invariant-loop-rest
invariant-loop-rest l = (l.count + string_length l.taken l.rest ≡ string_length false l.bytes) × (l.count + length l.rest ≡ length l.bytes)

abbrev pub decreases-loop-rest : goal.decreases-loop-rest
decreases-loop-rest l = length l.rest
