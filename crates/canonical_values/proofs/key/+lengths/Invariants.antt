use Rattle.std.proofs.Common.{◌≤◌, ◌+◌, ◌*◌, length}
use Rattle.canonical_values.specs.Standing.{kinds_of}
use Rattle.canonical_values.proofs.Keyed.{KeysPassed}
use Rattle.canonical_values.proofs.key.+lengths.Given as goal

abbrev pub decreases-key_length : goal.decreases-key_length
decreases-key_length l = 2 * l.levels

abbrev pub decreases-keys_length : goal.decreases-keys_length
decreases-keys_length l = 2 * l.levels + 1

abbrev pub invariant-keys_length-loop-next : goal.invariant-keys_length-loop-next
invariant-keys_length-loop-next l = record { within : l.at ≤ length l.bytes; passed : KeysPassed l.schema l.levels (kinds_of l.members) l.bytes l.next l.at }
