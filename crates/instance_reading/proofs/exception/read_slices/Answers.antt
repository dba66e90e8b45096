use Rattle.instance_reading.proofs.Wholes.{exception-fresh}
use Rattle.instance_reading.proofs.exception.read_slices.Goals as goal

pub returns : goal.returns
returns c = rw (exception-fresh c.args.schema.now c.args.arena.now c.args.cursor.now) (rw c.new-user_exception.ensures at c.read_through-result.ensures)
