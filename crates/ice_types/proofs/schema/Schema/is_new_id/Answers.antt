use Rattle.std.proofs.Common.{◌≡◌, ◌∙◌, true, false, sym}
use Rattle.ice_types.proofs.Told.{new_row}
use Rattle.ice_types.proofs.schema.Schema.is_new_id.Goals as goal

pub returns-then-is_type_id : goal.returns-then-is_type_id
returns-then-is_type_id c =
    new_row c.args.self.now c.args.id.now (c.is_type_id.ensures.0 c.if-is_type_id.true) c.row_of_id.result c.row_of_id.ensures c.is_none.result c.is_none.ensures

pub returns-else-is_type_id : goal.returns-else-is_type_id
returns-else-is_type_id c = (λ h. absurd cc, λ h. let clash : false ≡ true = sym c.if-is_type_id.false ∙ c.is_type_id.ensures.1 h.0 in absurd cc)
