use Rattle.std.proofs.Common.{List, sym, ap, subst, ◌∙◌}
use Rattle.std.specs.Prelude.{slice_get}
use Rattle.std.specs.Option.{option_copied}
use Rattle.std.proofs.lemmas.Result.{on_ok_weaker}
use Rattle.ice_types.specs.declared.declarations.StructDecl.{StructDecl}
use Rattle.ice_types.specs.declared.declarations.Member.{Member}
use Rattle.slice_compat.specs.Marks.{Spreads}
use Rattle.slice_compat.specs.Nodes.{AmongMembers}
use Rattle.slice_compat.proofs.Stepping.{struct_met, no_struct}
use Rattle.slice_compat.proofs.reached.spread_struct.Goals as goal

pub returns-in_default : goal.returns-in_default
returns-in_default c = no_struct c.args.schema.now c.args.at c.args.marks.now
    (ap (λ (rows : List StructDecl). slice_get rows c.args.at) (sym c.structs.ensures) ∙ (sym c.get.ensures ∙ ap option_copied c.in_default.is))

pub returns : goal.returns
returns c = on_ok_weaker c.meet_members.result
    (λ met. struct_met c.args.schema.now c.args.at c.in-Some.decl.now c.args.marks.now c.meet_members.new.self
    (ap (λ (rows : List StructDecl). slice_get rows c.args.at) (sym c.structs.ensures) ∙ (sym c.get.ensures ∙ ap option_copied c.in-Some.is))
    (subst (λ (members : List Member). Spreads (AmongMembers members) c.args.marks.now c.meet_members.new.self) c.as_slice.ensures met))
    c.meet_members.ensures
