use Rattle.std.proofs.Common.{◌≡◌, ◌-◌, []}
use Rattle.ice_messages.specs.Context.{entries_at}
use Rattle.ice_messages.specs.Seen.{seen}
use Rattle.ice_messages.proofs.read_context.take_entries.Given as goal

-- what is still read beside the entries so far is what is read in all
abbrev pub invariant-loop : goal.invariant-loop
invariant-loop l = entries_at (l.count - l.counter) (seen l.entries) l.cursor ≡ entries_at l.fn.count [] l.fn.cursor
