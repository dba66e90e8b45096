use Rattle.std.proofs.Common.{sym, ◌∙◌, subst, List, ℕ}
use Rattle.std.proofs.lemmas.Slice.Eq.{bytes_eq-Decides}
use Rattle.ice_types.specs.Tables.{HasRowId}
use Rattle.ice_types.proofs.RowIdentity.{one_id}
use Rattle.slice_compat.proofs.same_rows.has_id.Goals as goal

pub returns-in-Some : goal.returns-in-Some
returns-in-Some c =
    let same = bytes_eq-Decides c.in-Some.own.now c.args.id.now in (
      λ e. subst (λ (id : List ℕ). HasRowId c.args.schema.now id c.args.row) (same.0 (sym c.eq.ensures ∙ e)) c.in-Some.ensures,
      λ h. c.eq.ensures ∙ same.1 (one_id c.args.schema.now c.args.row c.in-Some.own.now c.args.id.now c.in-Some.ensures h),
    )

pub returns-in-None : goal.returns-in-None
returns-in-None c = (λ e. absurd cc, λ h. absurd (c.in-None.ensures c.args.id.now h))
