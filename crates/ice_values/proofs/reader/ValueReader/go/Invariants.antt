use Rattle.std.proofs.Common.{◌≡◌, ◌≤◌}
use Rattle.ice_encoding.specs.Pausing.{Inside}
use Rattle.ice_values.specs.Cost.{cost}
use Rattle.ice_values.specs.Going.{left_of}
use Rattle.ice_values.proofs.reader.ValueReader.go.Given as goal

abbrev pub invariant-loop-value : goal.invariant-loop-value
invariant-loop-value g l = record {
  left : (inside : Inside _) → left_of g.P.RefPort.take l.schema inside l.fn.self l.fn.port l.fn.cursor ≡ left_of g.P.RefPort.take l.schema inside l.self l.port l.cursor;
  room : g.P.RefPort.room l.port ≤ g.P.RefPort.room l.fn.port;
}

abbrev pub decreases-loop-value : goal.decreases-loop-value
decreases-loop-value g l = cost l.schema l.self
