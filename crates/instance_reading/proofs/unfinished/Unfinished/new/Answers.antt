use Rattle.std.proofs.Common.{refl}
use Rattle.instance_reading.proofs.unfinished.Unfinished.new.Goals as goal

pub returns : goal.returns
returns c = rw (c.left.ensures, c.new.ensures) refl
