use Rattle.std.proofs.Common.{arith, subst}
use Rattle.ice_types.specs.Fits.{ExceptionBaseFits}
use Rattle.ice_types.proofs.schema.Schema.exception_bases_from.Goals as goal

pub overflow_add-result : goal.overflow_add-result
overflow_add-result c = omega (arith, c.exception_bases.ensures.most, subst (ExceptionBaseFits c.args.self.now) c.in-Some.is c.requires, c.rules.ensures.room.exceptions)
