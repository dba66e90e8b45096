use Rattle.std.proofs.Common.{arith}
use Rattle.object_adapter.proofs.Short.{fault_short}
use Rattle.object_adapter.proofs.telling.failed_at.Goals as goal

pub returns-clause-short : goal.returns-clause-short
returns-clause-short c = fault_short (record { place = c.args.place; kind = c.args.kind }) (omega (arith, c.ranges.place.fits))

pub returns-in_err-text-clause-short : goal.returns-in_err-text-clause-short
returns-in_err-text-clause-short c = fault_short (record { place = c.args.place; kind = c.args.kind }) (omega (arith, c.ranges.place.fits))
