use Rattle.std.proofs.Common.{sym, ◌∙◌}
use Rattle.value_parts.proofs.RowsNamed.{class_row, exception_row, number_row}
use Rattle.value_parts.proofs.sliced_type.SlicedType.row_by_id.Goals as goal

pub returns-in-Some : goal.returns-in-Some
returns-in-Some c = number_row c.args.self c.args.schema.now c.args.id.now c.in-Some.number c.row_numbered.result (sym c.number_in.ensures ∙ c.in-Some.is) c.row_numbered.ensures

pub returns-in-None : goal.returns-in-None
returns-in-None c = class_row c.args.self c.args.schema.now c.args.id.now c.row_named.result c.in-Class.is c.rules.ensures (sym c.number_in.ensures ∙ c.in-None.is) c.row_named.ensures

pub returns-in-Exception : goal.returns-in-Exception
returns-in-Exception c = exception_row c.args.self c.args.schema.now c.args.id.now c.row_named-in-Exception.result c.in-Exception.is c.row_named-in-Exception.ensures
