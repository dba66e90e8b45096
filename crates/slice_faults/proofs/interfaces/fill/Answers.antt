use Rattle.slice_faults.specs.Held.{known_of}
use Rattle.slice_faults.proofs.InterfaceFaults.{same_fits}
use Rattle.slice_faults.proofs.interfaces.fill.Goals as goal

pub define_interface-requires-clause-fits : goal.define_interface-requires-clause-fits
define_interface-requires-clause-fits c = same_fits (known_of c.args.known.now) c.args.bases.now c.args.ops.now c.in_ok-bases.bases c.in_ok-ops.ops c.in_ok-bases.ensures c.in_ok-ops.ensures c.requires.fits
