use Rattle.std.proofs.Common.{length}
use Rattle.ice_proxy.specs.Options.{flags, is_given, no_options, options_at, with_flag}
use Rattle.ice_proxy.proofs.Loops.{Goes}
use Rattle.ice_proxy.proofs.options.take_options.Given as goal

abbrev pub invariant-loop-word : goal.invariant-loop-word
invariant-loop-word l = Goes flags is_given with_flag l.options l.words (options_at flags is_given with_flag no_options l.initial.words)

abbrev pub decreases-loop-word : goal.decreases-loop-word
decreases-loop-word l = length l.words.bytes
