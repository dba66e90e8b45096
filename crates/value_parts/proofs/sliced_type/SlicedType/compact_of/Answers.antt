use Rattle.value_parts.proofs.RowsNamed.{exception_compact}
use Rattle.value_parts.proofs.sliced_type.SlicedType.compact_of.Goals as goal

pub returns-in-Exception : goal.returns-in-Exception
returns-in-Exception c = exception_compact c.args.self c.args.schema.now c.args.row c.in-Exception.is
