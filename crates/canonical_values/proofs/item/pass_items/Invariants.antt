use Rattle.std.proofs.Common.{◌≤◌, ◌-◌, length}
use Rattle.canonical_values.specs.Frames.{ItemsPassed}
use Rattle.canonical_values.proofs.item.pass_items.Given as goal

abbrev pub invariant-loop-done : goal.invariant-loop-done
invariant-loop-done l = record { within : l.at ≤ length l.input; passed : ItemsPassed l.schema l.input l.fn.kind l.fn.count l.fn.start (l.fn.count - l.done) l.at }
