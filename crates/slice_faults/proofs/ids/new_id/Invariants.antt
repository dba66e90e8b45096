use Rattle.std.proofs.Common.{◌≡◌, ◌++◌, map, string_bytes}
use Rattle.std.specs.Vec.{vec_len}
use Rattle.slice_meaning.specs.Names.{Scope}
use Rattle.slice_meaning.specs.Numbers.{scope_at}
use Rattle.slice_faults.proofs.Parts.{parts}
use Rattle.slice_faults.proofs.ids.new_id.Given as goal

abbrev pub invariant-loop-name : goal.invariant-loop-name
invariant-loop-name l = (written : Scope) × (map (λ name. name.now) l.names.items ++ written ≡ scope_at l.known.names l.known.scope) × (string_bytes l.id ≡ parts written)

abbrev pub decreases-loop-name : goal.decreases-loop-name
decreases-loop-name l = vec_len l.names
