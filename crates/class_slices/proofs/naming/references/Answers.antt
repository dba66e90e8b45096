use Rattle.class_slices.proofs.Named.{all-put}
use Rattle.class_slices.proofs.naming.references.Goals as goal

pub returns : goal.returns
returns c = all-put c.loop-name.values c.args.names.now c.loop-name.name-index c.loop-name-test.false c.loop-name.invariant
