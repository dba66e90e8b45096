use Rattle.slice_compat.specs.Reading.{Reads}
use Rattle.slice_compat.proofs.reading.reads.Goals as goal

pub returns-clause-yes : goal.returns-clause-yes
unfolding Reads
returns-clause-yes c = c.reads_within.ensures.yes
