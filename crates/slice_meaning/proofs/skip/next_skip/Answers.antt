use Rattle.std.specs.Prelude.{reverse}
use Rattle.slice_meaning.proofs.Outer.{joined}
use Rattle.slice_meaning.proofs.skip.next_skip.Goals as goal

pub returns-then-near-far : goal.returns-then-near-far
returns-then-near-far c = joined (reverse c.args.entries.now) c.args.scope c.skip_from-near.result.to c.skip_from-far.result.to c.skip_from-near.ensures.outer c.skip_from-far.ensures.outer
