use Rattle.std.proofs.Common.{arith}
use Rattle.value_parts.proofs.RowsNamed.{numbered_class, numbered_exception}
use Rattle.value_parts.proofs.sliced_type.SlicedType.row_numbered.Goals as goal

pub returns-in-Class : goal.returns-in-Class
returns-in-Class c = numbered_class c.args.self c.args.schema.now c.args.number c.class_numbered.result c.in-Class.is c.rules.ensures (omega arith) c.class_numbered.ensures

pub returns-in-Exception : goal.returns-in-Exception
returns-in-Exception c = numbered_exception c.args.self c.args.schema.now c.args.number c.in-Exception.is c.rules.ensures
