use Rattle.std.proofs.Common.{arith}
use Rattle.object_adapter.proofs.Short.{fault_short}
use Rattle.ice_gateway.proofs.refusing.text_of_arguments.Goals as goal

pub returns-clause-short : goal.returns-clause-short
returns-clause-short c = fault_short (record { place = c.args.place; kind = c.args.kind }) (omega (arith, c.ranges.place.fits))
