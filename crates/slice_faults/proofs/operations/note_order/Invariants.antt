use Rattle.std.proofs.Common.{◌≡◌, false, drop}
use Rattle.slice_meaning.specs.Checking.{noted}
use Rattle.slice_meaning.specs.Members.{order_faults}
use Rattle.slice_faults.proofs.operations.note_order.Given as goal

abbrev pub invariant-loop-param : goal.invariant-loop-param
invariant-loop-param l = noted l.found.first (order_faults l.after (drop l.param-index l.params)) ≡ noted l.initial.found.first (order_faults false l.params)
