use Rattle.std.proofs.Common.{◌≡◌, Some, sym, arith}
use Rattle.ice_proxy.specs.Options.{flags, is_given, with_flag, listed}
use Rattle.ice_proxy.specs.Looking.{word_ahead}
use Rattle.ice_proxy.proofs.Loops.{goes_on}
use Rattle.ice_proxy.proofs.Progress.{ahead_fewer}
use Rattle.ice_proxy.proofs.Fewer.{option_fewer}
use Rattle.ice_proxy.proofs.options.take_options.Goals as goal

pub loop-word-smaller : goal.loop-word-smaller
loop-word-smaller c =
    let e : word_ahead c.loop-word.words ≡ Some (c.in-Some.word.now, c.in-Some.place, c.in-Some.ahead) = sym c.in-Some.ensures in
    let fewer = ahead_fewer c.loop-word.words c.in-Some.ahead c.in-Some.word.now c.in-Some.place e in
    let kept = option_fewer (listed flags c.in-Some.word.now) c.in-Some.place c.loop-word.options c.in_ok-options.options c.in-Some.ahead c.take_option.new.words c.in_ok-options.ensures in
    omega (arith, fewer, kept)

pub loop-word-preserved : goal.loop-word-preserved
loop-word-preserved c =
    let e : word_ahead c.loop-word.words ≡ Some (c.in-Some.word.now, c.in-Some.place, c.in-Some.ahead) = sym c.in-Some.ensures in
    let kept = option_fewer (listed flags c.in-Some.word.now) c.in-Some.place c.loop-word.options c.in_ok-options.options c.in-Some.ahead c.take_option.new.words c.in_ok-options.ensures in
    goes_on flags is_given with_flag c.loop-word.options c.loop-word.words c.in-Some.ahead _ c.in-Some.word.now c.in-Some.place c.loop-word.invariant e c.in_ok-options.options c.take_option.new.words c.in_ok-options.ensures kept
