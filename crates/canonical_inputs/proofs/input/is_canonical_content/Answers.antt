use Rattle.std.proofs.Common.{rules, ◌≡◌, sym, subst}
use Rattle.ice_types.specs.declared.kind.TypeRef.{TypeRef}
use Rattle.canonical_inputs.specs.Written.{IsWritten}
use Rattle.canonical_inputs.specs.Written.{one_member}
use Rattle.canonical_inputs.proofs.Alone.{value_written}
use Rattle.canonical_inputs.proofs.input.is_canonical_content.Goals as goal

pub returns-in-Class : goal.returns-in-Class
returns-in-Class c = λ yes name.
    subst (λ (k : TypeRef). IsWritten c.args.schema.now (one_member name k) c.args.content.now) (sym c.in-Class.is) (c.is_canonical_instance.ensures yes name)

pub returns-in_default : goal.returns-in_default
returns-in_default c = λ yes name.
    let same : c.in_default.kind ≡ c.args.kind = search rules in
    subst (λ (k : TypeRef). IsWritten c.args.schema.now (one_member name k) c.args.content.now) same (value_written c.args.schema.now name c.in_default.kind c.args.content.now (c.is_canonical.ensures yes))
