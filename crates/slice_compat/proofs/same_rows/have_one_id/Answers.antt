use Rattle.std.proofs.Common.{subst, List, ℕ}
use Rattle.ice_types.specs.Tables.{HasRowId}
use Rattle.ice_types.proofs.RowIdentity.{one_id}
use Rattle.slice_compat.proofs.same_rows.have_one_id.Goals as goal

pub returns-in-Some : goal.returns-in-Some
returns-in-Some c = (
  λ e. (c.in-Some.id.now, c.in-Some.ensures, c.has_id.ensures.0 e),
  λ h. c.has_id.ensures.1 (subst (λ (id : List ℕ). HasRowId c.args.other.now id c.args.row) (one_id c.args.one.now c.args.own h.0 c.in-Some.id.now h.1 c.in-Some.ensures) h.2),
)

pub returns-in-None : goal.returns-in-None
returns-in-None c = (λ e. absurd cc, λ h. absurd (c.in-None.ensures h.0 h.1))
