use Rattle.std.proofs.Common.{ℕ, List, map, refl, sym, subst, ◌∙◌, arith}
use Rattle.ice_types.specs.Lacking.{HasRow, HasRows}
use Rattle.ice_types.specs.declared.kind.RowRef.{RowRef}
use Rattle.ice_types.proofs.RowIdentity.{id_at, one_more, within_rows}
use Rattle.slice_compat.proofs.lacking.has_rows.Goals as goal

pub returns-then-not-has_row : goal.returns-then-not-has_row
unfolding HasRows
returns-then-not-has_row g c = (
  λ e. absurd cc,
  λ all.
      let at = c.loop-at.at in
      let row = c.index-rows-at.result in
      let has = all at (g.T.Row.id_of row) (id_at g.T.Row.id_of c.args.rows.now at row c.loop-at-test.true c.index-rows-at.is) in
      sym c.if-not-has_row.true ∙ c.has_row.ensures.1 (subst (λ (r : RowRef). HasRow c.args.one.now c.args.other.now c.id.result.now r) (sym c.as_row.ensures)
      (subst (λ (id : List ℕ). HasRow c.args.one.now c.args.other.now id (g.T.Placed.as_row at)) (sym c.id.ensures) has)),
)

pub loop-at-preserved : goal.loop-at-preserved
loop-at-preserved g c =
    let at = c.loop-at.at in
    let row = c.index-rows-at.result in
    one_more (λ k id. HasRow c.args.one.now c.args.other.now id (g.T.Placed.as_row k)) (map g.T.Row.id_of c.args.rows.now) at (g.T.Row.id_of row)
    (id_at g.T.Row.id_of c.args.rows.now at row c.loop-at-test.true c.index-rows-at.is)
    (subst (λ (r : RowRef). HasRow c.args.one.now c.args.other.now (g.T.Row.id_of row) r) c.as_row.ensures
    (subst (λ (id : List ℕ). HasRow c.args.one.now c.args.other.now id c.as_row.result) c.id.ensures (c.has_row.ensures.0 c.if-not-has_row.false)))
    c.loop-at.invariant

pub returns : goal.returns
unfolding HasRows
returns g c = (
  λ _. λ at id has. c.loop-at.invariant at id (omega (arith, within_rows g.T.Row.id_of c.args.rows.now at id has, c.loop-at-test.false)) has,
  λ _. refl,
)
