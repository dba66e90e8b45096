use Rattle.std.proofs.Common.{ℕ, Option, sym, subst}
use Rattle.ice_types.specs.declared.kind.RowRef.TheVariants as rows
use Rattle.ice_types.specs.Tables.{HasId, Finds, class_ids}
use Rattle.ice_types.proofs.schema.Schema.class.Goals as goal

pub returns-in_err-at : goal.returns-in_err-at
returns-in_err-at c = subst (λ (found : Option ℕ). Finds (HasId (class_ids c.args.self.now) c.args.id.now) found) (sym c.from_residual.ensures) (λ at has. c.in_err-at.ensures (rows.Class at) has)

pub returns-in_default : goal.returns-in_default
returns-in_default c = λ at has. c.in_default.not-Class at (c.rules.ensures.apart c.args.id.now c.in_ok-at.field-0 (rows.Class at) c.in_ok-at.ensures has)
