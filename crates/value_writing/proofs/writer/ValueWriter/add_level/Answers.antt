use Rattle.value_writing.specs.Putting.{waiting}
use Rattle.value_writing.proofs.Listed.{pushed}
use Rattle.value_writing.proofs.writer.ValueWriter.add_level.Goals as goal

pub returns : goal.returns
returns c = pushed waiting c.args.self.now.levels c.push.new.self c.args.level c.in_ok-push.ensures.ok
