use Rattle.std.proofs.Common.{Option, sym, ap, subst, inl, inr}
use Rattle.ice_types.specs.declared.kind.TypeRef.{TypeRef}
use Rattle.ice_types.specs.Tables.{HasTypeId, FindsKind}
use Rattle.ice_types.proofs.TypeIds.{type_of, no_row, no_type}
use Rattle.ice_types.proofs.schema.Schema.type_of_id.Goals as goal

pub returns-in_err-at : goal.returns-in_err-at
returns-in_err-at c = subst (λ (found : Option TypeRef). FindsKind (HasTypeId c.args.self.now c.args.id.now) found) (sym c.from_residual.ensures) (no_row c.args.self.now c.args.id.now c.in_err-at.ensures)

pub returns-in-Exception : goal.returns-in-Exception
returns-in-Exception c = no_type c.args.self.now c.rules.ensures c.args.id.now c.in_ok-at.field-0 c.in_ok-at.ensures (elim c.in-Exception.is [
  | inl row ↦ ap type_of row.1
  | inr row ↦ ap type_of row.1
])
