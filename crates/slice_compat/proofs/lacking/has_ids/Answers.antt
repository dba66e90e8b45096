use Rattle.std.proofs.Common.{ℕ, List, map, refl, sym, subst, arith}
use Rattle.ice_types.specs.Tables.{HasRowId}
use Rattle.ice_types.specs.Lacking.{IsTaken, AreTaken}
use Rattle.ice_types.proofs.RowIdentity.{id_at, one_more, within_rows}
use Rattle.slice_compat.proofs.lacking.has_ids.Goals as goal

pub returns-in_default : goal.returns-in_default
unfolding AreTaken
returns-in_default g c = (
  λ e. absurd cc,
  λ all.
      let at = c.loop-row.row-index in
      let taken = all at (g.T.Row.id_of c.row-item.result) (id_at g.T.Row.id_of c.args.rows.now at c.row-item.result c.loop-row-test.true c.row-item.is) in
      absurd (c.in_default.ensures taken.0 (subst (λ (id : List ℕ). HasRowId c.args.schema.now id taken.0) (sym c.id.ensures) taken.1)),
)

pub loop-row-preserved : goal.loop-row-preserved
loop-row-preserved g c =
    let at = c.loop-row.row-index in
    let row = c.row-item.result in
    one_more (λ k id. IsTaken c.args.schema.now id) (map g.T.Row.id_of c.args.rows.now) at (g.T.Row.id_of row) (id_at g.T.Row.id_of c.args.rows.now at row c.loop-row-test.true c.row-item.is)
    (c.in-Some.field-0, subst (λ (id : List ℕ). HasRowId c.args.schema.now id c.in-Some.field-0) c.id.ensures c.in-Some.ensures) c.loop-row.invariant

pub returns : goal.returns
unfolding AreTaken
returns g c = (
  λ _. λ at id has. c.loop-row.invariant at id (omega (arith, within_rows g.T.Row.id_of c.args.rows.now at id has, c.loop-row-test.false)) has,
  λ _. refl,
)
