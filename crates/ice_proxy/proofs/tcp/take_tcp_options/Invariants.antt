use Rattle.std.proofs.Common.{length}
use Rattle.ice_proxy.specs.Options.{tcp_flags, is_tcp_given, no_tcp_options, options_at, with_tcp_flag}
use Rattle.ice_proxy.proofs.Loops.{Goes}
use Rattle.ice_proxy.proofs.tcp.take_tcp_options.Given as goal

abbrev pub invariant-loop-word : goal.invariant-loop-word
invariant-loop-word l = Goes tcp_flags is_tcp_given with_tcp_flag l.options l.words (options_at tcp_flags is_tcp_given with_tcp_flag no_tcp_options l.initial.words)

abbrev pub decreases-loop-word : goal.decreases-loop-word
decreases-loop-word l = length l.words.bytes
