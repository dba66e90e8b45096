use Rattle.std.proofs.Common.{sym, ◌∙◌}
use Rattle.value_checks.proofs.Sliced.{kept_told, number_told, type_id_told}
use Rattle.value_checks.proofs.instances.is_unknown_id.Goals as goal

pub returns-in-Class : goal.returns-in-Class
returns-in-Class c = kept_told c.args.sort c.args.schema.now c.args.id.now c.as_str-id.result.now c.kept_id.result c.in-Class.is c.as_str-id.ensures c.kept_id.ensures

pub returns-then-is_numbered : goal.returns-then-is_numbered
returns-then-is_numbered c = number_told c.args.sort c.args.schema.now c.args.id.now c.as_str-id.result.now c.number_in.result c.is_some.result c.in-Exception.is c.as_str-id.ensures c.as_str-id.utf8 (sym c.is_numbered.ensures ∙ c.if-is_numbered.true) c.number_in.ensures c.is_some.ensures

pub returns-else-is_numbered : goal.returns-else-is_numbered
returns-else-is_numbered c = type_id_told c.args.sort c.args.schema.now c.args.id.now c.as_str-id.result.now c.exception.result c.is_none.result c.in-Exception.is c.as_str-id.ensures c.as_str-id.utf8 (sym c.is_numbered.ensures ∙ c.if-is_numbered.false) c.exception.ensures c.is_none.ensures
