use Rattle.std.proofs.Common.{sym, subst, arith}
use Rattle.instance_writing.specs.Tabling.{IsIndexed}
use Rattle.instance_writing.proofs.Tables.{indexed-empty}
use Rattle.instance_writing.proofs.table.Table.new.Goals as goal

pub invariant_of-result : goal.invariant_of-result
invariant_of-result c = subst (IsIndexed c.in_ok-vec.field-0.items) (sym c.new.ensures) (indexed-empty c.in_ok-vec.field-0.items (omega (arith, c.in_ok-vec.ensures.len, c.requires)))
