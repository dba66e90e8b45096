use Rattle.std.proofs.Common.{◌≡◌, ◌-◌}
use Rattle.ice_encoding.specs.Parts.{read_times}
use Rattle.ice_encoding.proofs.Times.{with_front}
use Rattle.ice_messages.specs.Calls.{call}
use Rattle.ice_messages.proofs.reading.take_each.Given as goal

abbrev pub invariant-loop : goal.invariant-loop
invariant-loop l = with_front l.calls (read_times call.read (l.count - l.counter) l.cursor) ≡ read_times call.read l.fn.count l.fn.cursor
