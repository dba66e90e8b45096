use Rattle.value_writing.specs.Putting.{waiting}
use Rattle.value_writing.proofs.Listed.{pushed}
use Rattle.value_writing.proofs.writer.ValueWriter.at.Goals as goal

pub returns : goal.returns
returns c = rw c.new-levels.ensures at (pushed waiting c.new-levels.result c.push.new.self c.args.level c.in_ok-push.ensures.ok)
