use Rattle.std.proofs.Common.{◌≡◌, ◌≤◌}
use Rattle.ice_encoding.specs.Pausing.{Inside}
use Rattle.ice_values.specs.Unread.{left_required, required_work}
use Rattle.ice_values.proofs.required.RequiredReader.go.Given as goal

abbrev pub invariant-loop-name : goal.invariant-loop-name
invariant-loop-name g l = record {
  left : (inside : Inside _) → left_required g.P.RefPort.take l.schema inside l.members l.fn.self l.fn.port l.fn.cursor ≡ left_required g.P.RefPort.take l.schema inside l.members l.self l.port l.cursor;
  room : g.P.RefPort.room l.port ≤ g.P.RefPort.room l.fn.port;
}

abbrev pub decreases-loop-name : goal.decreases-loop-name
decreases-loop-name g l = required_work l.members l.self
