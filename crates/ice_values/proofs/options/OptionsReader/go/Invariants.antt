use Rattle.std.proofs.Common.{◌≡◌, ◌≤◌}
use Rattle.ice_encoding.specs.Pausing.{Inside}
use Rattle.value_parts.specs.Shapes.{with_tag}
use Rattle.ice_values.specs.Unread.{left_options, options_work}
use Rattle.ice_values.proofs.options.OptionsReader.go.Given as goal

abbrev pub invariant-loop-name : goal.invariant-loop-name
invariant-loop-name g l = record {
  left : (inside : Inside _) → left_options g.P.RefPort.take l.schema inside l.marked (with_tag l.members) l.fn.self l.fn.port l.fn.cursor ≡ left_options g.P.RefPort.take l.schema inside l.marked (with_tag l.members) l.self l.port l.cursor;
  room : g.P.RefPort.room l.port ≤ g.P.RefPort.room l.fn.port;
}

abbrev pub decreases-loop-name : goal.decreases-loop-name
decreases-loop-name g l = options_work l.self
