use Rattle.std.proofs.Common.{refl}
use Rattle.slice_heads.proofs.table_port.InTable.new.Goals as goal

pub returns : goal.returns
returns c = rw c.new.ensures.items refl
