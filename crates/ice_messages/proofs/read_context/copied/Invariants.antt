use Rattle.std.proofs.Common.{◌≡◌, ◌++◌, length}
use Rattle.ice_messages.specs.Seen.{seen}
use Rattle.ice_messages.proofs.read_context.copied.Given as goal

abbrev pub invariant-loop-name : goal.invariant-loop-name
invariant-loop-name l = l.copies ++ seen l.entries ≡ seen l.fn.entries

abbrev pub decreases-loop-name : goal.decreases-loop-name
decreases-loop-name l = length l.entries.entries
