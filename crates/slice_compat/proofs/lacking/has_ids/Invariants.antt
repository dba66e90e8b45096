use Rattle.std.proofs.Common.{ℕ, ◌<◌, List, map}
use Rattle.ice_types.specs.Tables.{HasId}
use Rattle.ice_types.specs.Lacking.{IsTaken}
use Rattle.slice_compat.proofs.lacking.has_ids.Given as goal

abbrev pub invariant-loop-row : goal.invariant-loop-row
invariant-loop-row g l = (k : ℕ) (id : List ℕ) → k < l.row-index → HasId (map g.T.Row.id_of l.rows) id k → IsTaken l.schema id
