use Rattle.std.proofs.Common.{◌≡◌, suc, sym, subst}
use Rattle.ice_types.specs.declared.kind.TypeRef.{TypeRef}
use Rattle.graph_arena.specs.declared.value.Value.TheVariants as variants
use Rattle.graph_arena.specs.View.{view}
use Rattle.value_checks.specs.Zeros.{zero_of}
use Rattle.value_checks.proofs.Zeroed.{zero_nowhere, zero_struct}
use Rattle.value_checks.proofs.zeros.+zeros.Goals as goal

pub zero_at-returns-then-levels-eq0 : goal.zero_at-returns-then-levels-eq0
zero_at-returns-then-levels-eq0 t c = zero_nowhere c.args.schema.now c.args.levels c.args.kind c.if-levels-eq0.true

pub zero_form-returns-in_ok-zeros-in-Struct : goal.zero_form-returns-in_ok-zeros-in-Struct
zero_form-returns-in_ok-zeros-in-Struct t c =
    let members = c.members_of-members.result.now in
    let values = c.in_ok-zeros-in-Struct.field-0 in
    subst (λ (k : TypeRef). view (variants.Members values) ≡ zero_of c.args.schema.now (suc c.args.levels) k) (sym c.in-Struct.is)
    (zero_struct c.args.schema.now c.args.levels c.in-Struct.at members values c.members_of-members.ensures c.in_ok-zeros-in-Struct.ensures)
