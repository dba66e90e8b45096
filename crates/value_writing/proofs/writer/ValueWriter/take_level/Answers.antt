use Rattle.value_writing.specs.Putting.{waiting}
use Rattle.value_writing.proofs.Listed.{popped}
use Rattle.value_writing.proofs.writer.ValueWriter.take_level.Goals as goal

pub returns : goal.returns
returns c = popped waiting c.pop.result c.args.self.now.levels c.pop.new.self c.pop.ensures
