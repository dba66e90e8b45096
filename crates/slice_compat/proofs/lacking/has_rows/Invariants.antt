use Rattle.std.proofs.Common.{ℕ, ◌<◌, List, map}
use Rattle.ice_types.specs.Tables.{HasId}
use Rattle.ice_types.specs.Lacking.{HasRow}
use Rattle.slice_compat.proofs.lacking.has_rows.Given as goal

abbrev pub invariant-loop-at : goal.invariant-loop-at
invariant-loop-at g l = (k : ℕ) (id : List ℕ) → k < l.at → HasId (map g.T.Row.id_of l.rows) id k → HasRow l.one l.other id (g.T.Placed.as_row k)
