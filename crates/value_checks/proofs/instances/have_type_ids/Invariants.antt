use Rattle.std.proofs.Common.{◌↔◌, drop}
use Rattle.ice_encoding.specs.UserExceptionTyped.{HaveTypeIds}
use Rattle.graph_arena.specs.Seen.{view_slices}
use Rattle.value_checks.proofs.instances.have_type_ids.Given as goal

abbrev pub invariant-loop-slice : goal.invariant-loop-slice
invariant-loop-slice l = HaveTypeIds (view_slices l.slices) ↔ HaveTypeIds (view_slices (drop l.slice-index l.slices))
