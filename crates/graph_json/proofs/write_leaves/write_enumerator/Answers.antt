use Rattle.std.proofs.Common.{List, rules, subst, sym}
use Rattle.ice_types.specs.declared.declarations.Entry.{Entry}
use Rattle.ice_types.specs.Fits.{EnumFits}
use Rattle.graph_json.proofs.write_leaves.write_enumerator.Goals as goal

pub entry_numbered-requires : goal.entry_numbered-requires
entry_numbered-requires c = subst (λ (es : List Entry). EnumFits es) (sym c.as_slice.ensures) (c.rules.ensures.enums c.args.at c.in-Some.decl.now (search rules))
