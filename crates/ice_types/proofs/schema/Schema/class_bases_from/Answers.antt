use Rattle.std.proofs.Common.{arith, subst}
use Rattle.ice_types.specs.Fits.{ClassBaseFits}
use Rattle.ice_types.proofs.BaseChains.{flag_within}
use Rattle.ice_types.proofs.schema.Schema.class_bases_from.Goals as goal

pub class_bases-requires : goal.class_bases-requires
class_bases-requires c = omega (arith, flag_within c.args.self.now.defined_classes c.in-Some.base (subst (ClassBaseFits c.args.self.now) c.in-Some.is c.requires), c.rules.ensures.class_flags)
