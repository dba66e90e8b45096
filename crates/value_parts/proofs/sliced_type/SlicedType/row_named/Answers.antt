use Rattle.std.proofs.Common.{ℕ, ◌≡◌}
use Rattle.ice_types.specs.Tables.{class_ids, exception_ids}
use Rattle.ice_types.specs.declared.kind.RowRef.TheVariants as rows
use Rattle.value_parts.proofs.RowsNamed.{found_is, class_is, exception_is}
use Rattle.value_parts.proofs.sliced_type.SlicedType.row_named.Goals as goal

same_class : (a b : ℕ) → rows.Class a ≡ rows.Class b → a ≡ b
same_class a b e = cc

same_exception : (a b : ℕ) → rows.Exception a ≡ rows.Exception b → a ≡ b
same_exception a b e = cc

pub returns-in-Class : goal.returns-in-Class
returns-in-Class c =
    class_is c.args.self c.args.schema.now c.args.id.now c.class.result c.in-Class.is
    (found_is (class_ids c.args.schema.now) c.args.id.now c.class.result (λ a b is other. same_class a b (c.rules.ensures.apart c.args.id.now (rows.Class a) (rows.Class b) is other)) c.class.ensures)

pub returns-in-Exception : goal.returns-in-Exception
returns-in-Exception c =
    exception_is c.args.self c.args.schema.now c.args.id.now c.exception.result c.in-Exception.is
    (found_is (exception_ids c.args.schema.now) c.args.id.now c.exception.result (λ a b is other. same_exception a b (c.rules.ensures.apart c.args.id.now (rows.Exception a) (rows.Exception b) is other)) c.exception.ensures)
