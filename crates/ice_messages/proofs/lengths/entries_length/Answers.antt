use Rattle.std.proofs.Common.{length}
use Rattle.std.specs.List.{flat_map}
use Rattle.ice_encoding.specs.Parts.{both, text}
use Rattle.ice_messages.proofs.Sums.{none_more}
use Rattle.ice_messages.proofs.lengths.entries_length.Goals as goal

pub returns : goal.returns
returns c = none_more (both text text).put c.args.entries.now c.loop-name.name-index c.loop-name.length (length (flat_map (both text text).put c.args.entries.now)) c.loop-name-test.false c.loop-name.invariant.fits c.loop-name.invariant.so_far
