use Rattle.std.proofs.Common.{List, rules, subst, sym}
use Rattle.ice_types.specs.declared.declarations.Entry.{Entry}
use Rattle.ice_types.specs.Fits.{EnumFits}
use Rattle.graph_json.proofs.leaves.enumerator_of.Goals as goal

pub number_named-requires : goal.number_named-requires
number_named-requires c = subst (λ (es : List Entry). EnumFits es) (sym c.as_slice.ensures) (c.rules.ensures.enums c.args.at c.in_ok-decl.decl.now (search rules))
