use Rattle.std.proofs.Common.{arith}
use Rattle.ice_gateway.proofs.Replying.{results_short}
use Rattle.ice_gateway.proofs.refusing.text_of_results.Goals as goal

pub returns-clause-short : goal.returns-clause-short
returns-clause-short c = results_short (record { place = c.args.place; kind = c.args.kind }) (omega (arith, c.ranges.place.fits))
