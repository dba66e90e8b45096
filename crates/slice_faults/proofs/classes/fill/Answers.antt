use Rattle.std.proofs.Common.{ℕ, Option, sym, subst}
use Rattle.ice_types.specs.Fits.{CompactIdFits}
use Rattle.slice_faults.specs.Held.{known_of}
use Rattle.slice_faults.proofs.ClassFaults.{same_fits}
use Rattle.slice_faults.proofs.classes.fill.Goals as goal

pub define_class-requires-clause-fits : goal.define_class-requires-clause-fits
define_class-requires-clause-fits c = same_fits (known_of c.args.known.now) c.args.base.now c.args.fields.now c.base_at-base.result c.in_ok-members.members c.base_at-base.ensures c.in_ok-members.ensures c.requires.fits

pub define_class-requires-clause-compact : goal.define_class-requires-clause-compact
define_class-requires-clause-compact c = subst (λ (o : Option ℕ). CompactIdFits (known_of c.args.known.now).tables o) (sym c.compact_of-compact.ensures) c.requires.compact
