use Rattle.value_parts.specs.Shapes.{handed}
use Rattle.instance_reading.proofs.Wholes.{content-fresh}
use Rattle.instance_reading.proofs.decoder.read_roots.Goals as goal

pub returns : goal.returns
returns c = rw (content-fresh c.args.schema.now (handed c.args.fields) c.args.arena.now c.args.cursor.now) (rw c.new-reader.ensures at c.read_through-result.ensures)
