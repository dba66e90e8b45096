use Rattle.std.proofs.Common.{◌≡◌, ◌+◌, length}
use Rattle.ice_proxy.specs.Words.{bare, word_length}
use Rattle.ice_proxy.proofs.words.word_length.Given as goal

abbrev pub invariant-loop-rest : goal.invariant-loop-rest
invariant-loop-rest l = (l.count + word_length l.stand l.rest ≡ word_length bare l.bytes) × (l.count + length l.rest ≡ length l.bytes)

abbrev pub decreases-loop-rest : goal.decreases-loop-rest
decreases-loop-rest l = length l.rest
