use Rattle.std.proofs.Common.{◌≡◌, drop}
use Rattle.std.specs.Prelude.{flat_map}
use Rattle.slice_meaning.specs.Checking.{noted}
use Rattle.slice_meaning.specs.Members.{field_faults}
use Rattle.slice_faults.specs.Held.{known_of}
use Rattle.slice_faults.proofs.operations.note_params.Given as goal

abbrev pub invariant-loop-param : goal.invariant-loop-param
invariant-loop-param l = noted l.found.first (flat_map (λ p. field_faults (known_of l.known) p.field) (drop l.param-index l.params)) ≡ noted l.initial.found.first (flat_map (λ p. field_faults (known_of l.known) p.field) l.params)
